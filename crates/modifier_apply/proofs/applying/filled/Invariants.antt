use Rattle.std.proofs.Common.{◌≡◌, ◌≤◌, ◌-◌, ◌++◌, max, length, replicate}
use Rattle.value_model.specs.Val.{null}
use Rattle.modifier_apply.proofs.applying.filled.Given as goal

abbrev pub invariant-loop-place : goal.invariant-loop-place
invariant-loop-place l =
    (l.items ≡ l.fn.items ++ replicate (l._place - length l.fn.items) null) × (length l.fn.items ≤ l._place) × (l._place ≤ max (length l.fn.items) l.places)
