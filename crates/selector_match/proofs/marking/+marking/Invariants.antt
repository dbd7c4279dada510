use Rattle.std.proofs.Common.{◌+◌, ◌*◌, length, false, take}
use Rattle.std.specs.List.{list_any}
use Rattle.value_model.specs.Branches.{branches, field_of, if_object}
use Rattle.ejson_value.specs.View.{view, views}
use Rattle.selector_match.specs.Operands.{Marked, met}
use Rattle.selector_match.proofs.marking.+marking.Given as goal

abbrev pub decreases-mark_from : goal.decreases-mark_from
decreases-mark_from l = 5 * length l.rest.now

abbrev pub decreases-mark_after : goal.decreases-mark_after
decreases-mark_after l = 5 * length l.more.now + 4

abbrev pub decreases-mark_at_place : goal.decreases-mark_at_place
decreases-mark_at_place l = 5 * length l.more.now + 1

abbrev pub decreases-mark_in_elements : goal.decreases-mark_in_elements
decreases-mark_in_elements l = 5 * length l.more.now + 2

abbrev pub decreases-mark_in_element : goal.decreases-mark_in_element
decreases-mark_in_element l = 5 * length l.more.now + 1

abbrev pub invariant-mark_in_elements-loop-item : goal.invariant-mark_in_elements-loop-item
invariant-mark_in_elements-loop-item l =
    Marked (views l.rising) (λ v. list_any (λ x. met v (if_object (λ fs. branches l.more (field_of fs l.part) false) (view x))) (take l.item-index l.item-items)) l.initial.marks l.marks
