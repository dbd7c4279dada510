use Rattle.std.proofs.Common.{ap, sym, ◌∙◌, Ok}
use Rattle.ejson_value.specs.View.{view}
use Rattle.selector_match.specs.Reading.{list_operand}
use Rattle.selector_match.proofs.Front.{list_operand-list}
use Rattle.selector_match.proofs.reading.list_operand.Goals as goal

pub returns-in_ok-read-in-List : goal.returns-in_ok-read-in-List
returns-in_ok-read-in-List c = ap (λ v. list_operand (view v)) c.in-List.is ∙ (list_operand-list c.in-List.items ∙ ap (λ vs. Ok vs) (sym c.in_ok-read-in-List.ensures))
