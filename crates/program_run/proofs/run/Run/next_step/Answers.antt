use Rattle.std.specs.Prelude.{option_map}
use Rattle.std.proofs.Common.{◌≡◌, drop, None, ap, sym, ◌∙◌}
use Rattle.program_steps.specs.Runs.{outcome_view}
use Rattle.program_run.specs.Progress.{Progress, left_of}
use Rattle.program_run.proofs.Steps.{none_next, some_next}
use Rattle.program_run.proofs.run.Run.next_step.Goals as goal

pub returns-in-None-clause-none : goal.returns-in-None-clause-none
returns-in-None-clause-none c =
    let next = c.args.self.now.next in
    let steps = c.args.steps.now in
    let none : c.args.self.now.outcome ≡ None = sym (ap (λ (p : Progress). p.outcome) c.self.view_is) ∙ ap (λ o. option_map outcome_view o) c.in-None.is in
    none_next (λ r. r.now) c.step_at.result steps c.self.inside.next next (ap (λ (p : Progress). p.next) c.self.view_is) c.step_at.ensures (λ e. ap (λ o. left_of o (drop next steps)) none ∙ e)

pub returns-in-None-clause-some : goal.returns-in-None-clause-some
returns-in-None-clause-some c =
    some_next (λ r. r.now) c.step_at.result c.args.steps.now c.self.inside.next c.args.self.now.next (sym (ap (λ (p : Progress). p.outcome) c.self.view_is) ∙ ap (λ o. option_map outcome_view o) c.in-None.is) (ap (λ (p : Progress). p.next) c.self.view_is) c.step_at.ensures
