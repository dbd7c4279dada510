use Rattle.std.proofs.Common.{◌≡◌, ◌+◌, ◌*◌, Bool, false, Option, length, take}
use Rattle.std.specs.List.{list_any}
use Rattle.value_model.specs.Val.{Val}
use Rattle.value_model.specs.Branches.{branches, field_of, if_object}
use Rattle.ejson_value.specs.View.{view}
use Rattle.ejson_value.specs.Asking.{Answers}
use Rattle.ejson_value.proofs.branches.+branches.Given as goal

abbrev pub decreases-some_from : goal.decreases-some_from
decreases-some_from g l = 5 * length l.rest.now

abbrev pub decreases-some_after : goal.decreases-some_after
decreases-some_after g l = 5 * length l.more.now + 4

abbrev pub decreases-some_at_place : goal.decreases-some_at_place
decreases-some_at_place g l = 5 * length l.more.now + 1

abbrev pub decreases-some_in_elements : goal.decreases-some_in_elements
decreases-some_in_elements g l = 5 * length l.more.now + 2

abbrev pub decreases-some_in_element : goal.decreases-some_in_element
decreases-some_in_element g l = 5 * length l.more.now + 1

abbrev pub invariant-some_in_elements-loop-item : goal.invariant-some_in_elements-loop-item
invariant-some_in_elements-loop-item g l =
    (p : Option Val → Bool → Bool) → Answers (goal.F-post g l.test) p →
    list_any (λ v. list_any (λ b. p b.0 b.1) (if_object (λ fs. branches l.more (field_of fs l.part) false) (view v))) (take l.item-index l.item-items) ≡ false
