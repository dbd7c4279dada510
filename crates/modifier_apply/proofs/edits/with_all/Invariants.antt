use Rattle.std.proofs.Common.{◌≡◌, ◌++◌, take}
use Rattle.ejson_value.specs.View.{views}
use Rattle.modifier_apply.proofs.edits.with_all.Given as goal

abbrev pub invariant-loop-operand : goal.invariant-loop-operand
invariant-loop-operand l = l.items ≡ l.fn.items ++ views (take l.operand-index l.operand-items)
