use Rattle.std.proofs.Common.{Ok, ap, ◌∙◌}
use Rattle.value_model.specs.ValLaws.{list_of-vals_of}
use Rattle.ejson_value.specs.View.{view}
use Rattle.modifier_apply.specs.Modified.{elements}
use Rattle.modifier_apply.proofs.edits.elements.Goals as goal

pub returns-in-List : goal.returns-in-List
returns-in-List c = ap (λ v. elements (view v)) c.in-List.is ∙ ap (λ vs. Ok vs) (list_of-vals_of c.in-List.items)
