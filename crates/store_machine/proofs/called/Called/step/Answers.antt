use Rattle.std.specs.Prelude.{option_map}
use Rattle.std.proofs.Common.{◌≡◌, List, Some, ◌∙◌, ap, subst}
use Rattle.program_steps.specs.declared.step.ProgramStep.{ProgramStep}
use Rattle.program_steps.specs.declared.outcome.Status.{Status}
use Rattle.program_steps.specs.Runs.{outcome_view}
use Rattle.program_model.specs.Steps.{stepped}
use Rattle.program_run.specs.Progress.{run_of}
use Rattle.program_run.specs.Planned.{setting_of, stepped_as}
use Rattle.store_machine.specs.declared.called.Made.{Made}
use Rattle.store_machine.specs.Standing.{end_in}
use Rattle.store_machine.proofs.Steppings.{has_stepped}
use Rattle.store_machine.proofs.called.Called.step.Goals as goal

pub returns-clause-made : goal.returns-clause-made
returns-clause-made c =
    let app = c.args.app.now in
    let store = c.args.store.now in
    let old = c.args.self.now in
    let effect = c.in_ok-effect.effect in
    let does =
    subst (λ (ss : List ProgramStep). stepped (setting_of (Some app) store c.args.room) store.rows (run_of ss old.run) ≡ stepped_as c.step.new.store.rows effect (run_of ss c.step.new.self)) c.steps_of-steps.ensures c.in_ok-effect.ensures.does in
    has_stepped app store c.step.new.store old c.note.new.self c.step.new.self c.args.room c.args.place effect c.made_of.result does c.in_ok-effect.ensures.told c.step.ensures.names c.note.ensures (ap (λ (m : Made). m.changes) c.made_of.ensures)
    (ap (λ (m : Made). m.status) c.made_of.ensures ∙ ap (λ b. let s : Status = record { unblocked = b; ended = end_in (option_map outcome_view effect.outcome) c.args.place } in s) c.is_unblocked.ensures)
