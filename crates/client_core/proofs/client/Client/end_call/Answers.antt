use Rattle.program_steps.specs.Runs.{outcome_view}
use Rattle.client_core.specs.State.{state_of}
use Rattle.client_core.proofs.Shown.{finished_shown}
use Rattle.client_core.proofs.client.Client.end_call.Goals as goal

pub invariant_of-self : goal.invariant_of-self
invariant_of-self c =
    let s = c.self.inside in
    finished_shown (state_of s.session s.is_failed s.broken s.waiting.items s.view s.subs s.calls.items) c.in-Some.number (outcome_view c.in_ok-outcome.outcome) c.finish.new.calls.items c.finish.ensures c.self.invariant
