use Rattle.std.proofs.Common.{◌≡◌, ◌++◌, take}
use Rattle.modifier_apply.proofs.missing.with_missing.Given as goal

abbrev pub invariant-loop-one : goal.invariant-loop-one
invariant-loop-one l = l.items ≡ l.fn.items ++ take l.one-index l.one-items
