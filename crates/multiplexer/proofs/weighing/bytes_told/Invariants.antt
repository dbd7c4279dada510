use Rattle.std.proofs.Common.{◌≡◌, ◌+◌, ◌<◌, ◌^◌, drop}
use Rattle.ejson_value.specs.Measure.{capped}
use Rattle.multiplexer.specs.Bounds.{bytes_told}
use Rattle.multiplexer.proofs.weighing.bytes_told.Given as goal

abbrev pub invariant-loop-one : goal.invariant-loop-one
invariant-loop-one l = (capped (l.total + bytes_told (drop l.one-index l.one-items)) ≡ capped (bytes_told l.one-items)) × (l.total < 2 ^ 64)
