use Rattle.std.proofs.Common.{Some, take}
use Rattle.std.specs.List.{list_any}
use Rattle.ejson_value.specs.View.{view, views}
use Rattle.selector_match.specs.Holds.{equals}
use Rattle.selector_match.specs.Operands.{Marked}
use Rattle.selector_match.proofs.marking.mark_elements.Given as goal

abbrev pub invariant-loop-element : goal.invariant-loop-element
invariant-loop-element l = Marked (views l.rising) (λ v. list_any (λ x. equals v (Some (view x))) (take l.element-index l.elements)) l.initial.marks l.marks
