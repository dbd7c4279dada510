use Rattle.std.proofs.Common.{◌≡◌, map, take}
use Rattle.ejson_value.specs.declared.change.Change.{Change}
use Rattle.ejson_value.proofs.put_all.copies.Given as goal

abbrev pub invariant-loop-change : goal.invariant-loop-change
invariant-loop-change l = l.copies.items ≡ map (λ (c : Change). c.after) (take l.change-index l.change-items)
