use Rattle.std.proofs.Common.{◌≡◌, ◌≤◌, length, drop}
use Rattle.map_model.specs.Differences.{without}
use Rattle.value_model.specs.Order.{text_cmp}
use Rattle.ejson_value.proofs.editing.clear.Given as goal

abbrev pub invariant-loop-left : goal.invariant-loop-left
invariant-loop-left l = (l.left ≤ length l.names) × (l.doc ≡ without text_cmp l.fn.doc (drop l.left l.names))

abbrev pub decreases-loop-left : goal.decreases-loop-left
decreases-loop-left l = l.left
