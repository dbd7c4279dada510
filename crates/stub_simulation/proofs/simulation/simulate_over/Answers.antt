use Rattle.std.specs.Prelude.{IfOk}
use Rattle.std.specs.Option.{option_copied}
use Rattle.std.proofs.Common.{List, [], ℕ, ap, sym, subst, ◌∙◌}
use Rattle.ejson_value.specs.View.{view}
use Rattle.program_steps.specs.declared.step.ProgramStep.{ProgramStep}
use Rattle.program_model.specs.Run.{begun}
use Rattle.program_model.specs.Steps.{whole_run, client_setting, steps_of}
use Rattle.stub_simulation.specs.Simulating.{IsSimulated}
use Rattle.stub_simulation.proofs.Meaning.{no_simulation}
use Rattle.stub_simulation.proofs.simulation.simulate_over.Goals as goal

pub returns-in-Some : goal.returns-in-Some
returns-in-Some c =
    let of_app =
    subst (λ (names : List (List ℕ)). IfOk c.simulate_steps.result (IsSimulated c.args.view.now (whole_run (client_setting names) c.args.view.now (begun c.args.params.now (view c.args.seed.now) c.as_slice.result.now))))
    c.collections.ensures c.simulate_steps.ensures in
    subst (λ (steps : List ProgramStep). IfOk c.simulate_steps.result (IsSimulated c.args.view.now (whole_run (client_setting c.args.app.now.collections) c.args.view.now (begun c.args.params.now (view c.args.seed.now) steps))))
    (c.as_slice.ensures ∙ sym (ap (λ o. steps_of (option_copied o)) c.in-Some.is) ∙ c.stub_of.ensures) of_app

pub returns-in-None : goal.returns-in-None
returns-in-None c =
    subst (λ (steps : List ProgramStep). IsSimulated c.args.view.now (whole_run (client_setting c.args.app.now.collections) c.args.view.now (begun c.args.params.now (view c.args.seed.now) steps)) (record { changes = c.new.result; touched = c.new-in-None.result }))
    (sym (ap (λ o. steps_of (option_copied o)) c.in-None.is) ∙ c.stub_of.ensures)
    (no_simulation c.args.view.now (begun c.args.params.now (view c.args.seed.now) []) (record { changes = c.new.result; touched = c.new-in-None.result }) c.new.ensures c.new-in-None.ensures)
