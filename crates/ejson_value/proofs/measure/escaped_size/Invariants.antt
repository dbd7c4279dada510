use Rattle.std.proofs.Common.{◌≡◌, ◌+◌, ◌<◌, ◌^◌, drop}
use Rattle.std.specs.Prelude.{sum_by}
use Rattle.value_model.specs.Size.{escape_size, text_size}
use Rattle.ejson_value.specs.Measure.{capped}
use Rattle.ejson_value.proofs.measure.escaped_size.Given as goal

abbrev pub invariant-loop-byte : goal.invariant-loop-byte
invariant-loop-byte l = (capped (l.total + sum_by escape_size (drop l.byte-index l.bytes)) ≡ capped (text_size l.bytes)) × (l.total < 2 ^ 64)
