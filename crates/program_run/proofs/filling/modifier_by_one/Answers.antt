use Rattle.std.specs.Prelude.{option_map}
use Rattle.std.proofs.Common.{ap, sym, ◌∙◌}
use Rattle.ejson_value.specs.View.{view}
use Rattle.program_steps.specs.Template.{FillsShort, filled_short}
use Rattle.program_steps.proofs.Short.{fills_short}
use Rattle.program_model.specs.Run.{modifier_in}
use Rattle.program_run.specs.Progress.{seen}
use Rattle.program_run.proofs.Short.{modifier_by_one}
use Rattle.program_run.proofs.filling.modifier_by_one.Goals as goal

pub returns-in-Ok : goal.returns-in-Ok
returns-in-Ok c =
    let run = c.args.run.now in
    let one = c.in-Some.one in
    let is_short = c.in-Some.ensures.1 in
    let template = view one.operand.now in
    let operand = view c.in-Some-2.operand in
    let fills : FillsShort run.params template operand =
    fills_short run.params template operand
    (ap (λ params. filled_short params template) (sym c.params.ensures) ∙ sym c.in_ok-operand.ensures ∙ ap (λ o. option_map view o) c.in-Some-2.is) in
    modifier_by_one run.params run.made one.name.now one.written.now template operand c.in-Ok.modifier
    is_short.short_name is_short.short_path is_short.path fills c.in-Ok.ensures
    ∙ ap (λ t. modifier_in (seen run) t) (sym c.in-Some.ensures.0 ∙ c.template.view_is)
