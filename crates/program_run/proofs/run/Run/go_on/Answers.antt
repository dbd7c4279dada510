use Rattle.std.specs.Prelude.{option_map}
use Rattle.std.proofs.Common.{◌≡◌, ◌<◌, ◌+◌, suc, length, drop, refl, ap, sym, subst, ◌∙◌, add-one}
use Rattle.program_steps.specs.Runs.{outcome_view}
use Rattle.program_model.specs.Run.{gone_on}
use Rattle.program_run.specs.Progress.{Progress, with_left, run_of}
use Rattle.program_run.proofs.Steps.{goes}
use Rattle.program_run.proofs.run.Run.go_on.Goals as goal

pub returns-clause-goes : goal.returns-clause-goes
returns-clause-goes c =
    let p : Progress = record { params = c.self.inside.params; seed = c.self.inside.seed; next = c.self.inside.next; made = c.self.inside.made; drawn = c.self.inside.drawn; unblocked = c.self.inside.unblocked; outcome = option_map outcome_view c.self.inside.outcome } in
    let steps = c.args.steps.now in
    subst (λ (q : Progress). run_of steps (record p { next = c.self.inside.next + 1; outcome = option_map outcome_view c.over_if.result }) ≡ gone_on (with_left q (drop (suc q.next) steps))) c.self.view_is
    (goes steps p _ _ _ (ap (λ (q : Progress). q.outcome) c.self.view_is ∙ c.requires.goes_on) (subst (λ n. n < length steps) (sym (ap (λ (q : Progress). q.next) c.self.view_is)) c.requires.left) (add-one c.self.inside.next) refl c.over_if.ensures)
