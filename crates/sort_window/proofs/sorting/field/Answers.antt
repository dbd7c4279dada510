use Rattle.std.proofs.Common.{ap, ◌∙◌, ◌∷◌, sym}
use Rattle.std.specs.Prelude.{Some}
use Rattle.sort_window.specs.Sorting.{reached}
use Rattle.ejson_value.specs.declared.value.Value.{Value}
use Rattle.ejson_value.specs.View.{view}
use Rattle.sort_window.proofs.Reaching.{reached_field, reached_other}
use Rattle.sort_window.proofs.sorting.field.Goals as goal

pub returns-in-Object : goal.returns-in-Object
returns-in-Object c rest =
    reached_field c.in-Object.doc c.args.name.now _ c.get.ensures rest ∙ ap (λ (v : Value). reached (c.args.name.now ∷ rest) (Some (view v))) (sym c.in-Object.is)

pub returns-in_default : goal.returns-in_default
returns-in_default c rest = reached_other c.args.value.now c.args.name.now c.in_default.not-Object rest
