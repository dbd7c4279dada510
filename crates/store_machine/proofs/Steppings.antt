-- A call's run makes a step.
use Rattle.std.specs.Prelude.{option_map}
use Rattle.std.proofs.Common.{◌≡◌, ℕ, Option, Some, refl, ap, sym, subst, ◌∙◌}
use Rattle.app_model.specs.App.{App, method}
use Rattle.collection_store.specs.State.{StoreState}
use Rattle.program_steps.specs.declared.outcome.Status.{Status}
use Rattle.program_steps.specs.Runs.{Outcome, outcome_view}
use Rattle.program_model.specs.Steps.{Stepped, stepped}
use Rattle.program_run.specs.declared.run.Effect.{Effect}
use Rattle.program_run.specs.Progress.{Progress, run_of}
use Rattle.program_run.specs.Planned.{setting_of, stepped_as}
use Rattle.history_model.specs.History.{steps_of, status_of}
use Rattle.store_machine.specs.Places.{noted}
use Rattle.store_machine.specs.declared.called.Called.{Called}
use Rattle.store_machine.specs.declared.called.Made.{Made}
use Rattle.store_machine.specs.Standing.{begun_of, end_in, HasStepped}

pub has_stepped : (app : App) (store store' : StoreState) (old new : Called) (r : Progress) (room place : ℕ) (effect : Effect) (made : Made)
    → stepped (setting_of (Some app) store room) store.rows (run_of (steps_of (method app old.method)) old.run) ≡ stepped_as store'.rows effect (run_of (steps_of (method app old.method)) r)
    → option_map outcome_view effect.outcome ≡ r.outcome → store'.names ≡ store.names → new ≡ record old { run = r; at = place; unblocked = noted old.unblocked r.unblocked place } → made.changes ≡ effect.changes
    → made.status ≡ record { unblocked = new.run.unblocked; ended = end_in (option_map outcome_view effect.outcome) place } → HasStepped app store old room place store' new made
has_stepped app store store' old new r room place effect made does told names after changes status =
    let n : Called = record old { run = r; at = place; unblocked = noted old.unblocked r.unblocked place } in
    let ended : status_of (begun_of app n) ≡ record { unblocked = n.run.unblocked; ended = end_in (option_map outcome_view effect.outcome) place } =
    ap (λ (o : Option Outcome). let s : Status = record { unblocked = r.unblocked; ended = end_in o place } in s) (sym told) in
    let same = ap (λ (x : Called). let s : Status = record { unblocked = x.run.unblocked; ended = end_in (option_map outcome_view effect.outcome) place } in s) after in
    let made_is : HasStepped app store old room place store' n made = record {
      rows = sym (ap (λ (s : Stepped). s.rows) does);
      changes = changes ∙ sym (ap (λ (s : Stepped). s.changes) does);
      run = sym (ap (λ (s : Stepped). s.run) does);
      noted = refl;
      status = status ∙ (same ∙ sym ended);
      names = names;
    } in
    subst (λ (x : Called). HasStepped app store old room place store' x made) (sym after) made_is
