use Rattle.std.proofs.Common.{Ok, ap, sym, ◌∙◌}
use Rattle.value_model.specs.ValLaws.{list_of-vals_of}
use Rattle.ejson_value.specs.View.{view}
use Rattle.modifier_apply.specs.Reading.{list_reading}
use Rattle.modifier_apply.proofs.reading.read_list.Goals as goal

pub returns-in_ok-copy-in-List : goal.returns-in_ok-copy-in-List
returns-in_ok-copy-in-List c = ap (λ v. list_reading (view v)) c.in-List.is ∙ ap (λ vs. Ok vs) (list_of-vals_of c.in-List.items ∙ sym c.in_ok-copy-in-List.ensures)
