use Rattle.std.proofs.Common.{ap, sym, subst, ◌∙◌}
use Rattle.value_model.specs.ValLaws.{list_of-vals_of}
use Rattle.ejson_value.specs.View.{view}
use Rattle.program_steps.specs.declared.step.ProgramStep.{ProgramStep}
use Rattle.program_reading.specs.Faults.{Gives}
use Rattle.program_reading.specs.Steps.{elements_reading, step_reading}
use Rattle.program_reading.proofs.steps.read_step.Goals as goal

pub returns-in-List : goal.returns-in-List
returns-in-List c =
    let cs = c.args.collections.now in
    let place = c.args.place.now in
    subst (λ r. Gives (λ (s : ProgramStep). s) c.read_elements.result r)
    (ap (λ vs. elements_reading cs place vs) (sym (list_of-vals_of c.in-List.items)) ∙ ap (λ v. step_reading cs place (view v)) (sym c.in-List.is))
    c.read_elements.ensures
