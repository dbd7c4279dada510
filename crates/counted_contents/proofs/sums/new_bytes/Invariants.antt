use Rattle.std.proofs.Common.{◌≡◌, ◌+◌, ◌<◌, ◌^◌, drop}
use Rattle.ejson_value.specs.Measure.{capped}
use Rattle.collection_store.specs.Limits.{new_bytes}
use Rattle.counted_contents.proofs.sums.new_bytes.Given as goal

abbrev pub invariant-loop-change : goal.invariant-loop-change
invariant-loop-change l = (capped (l.total + new_bytes (drop l.change-index l.change-items)) ≡ capped (new_bytes l.change-items)) × (l.total < 2 ^ 64)
