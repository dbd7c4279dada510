use Rattle.std.proofs.Common.{◌≡◌, ◌+◌, length, ◌≤◌, ◌^◌, ◌<◌}
use Rattle.std.specs.Prelude.{decimal}
use Rattle.ejson_value.proofs.measure.digits.Given as goal

abbrev pub invariant-loop-number : goal.invariant-loop-number
invariant-loop-number l = (length (decimal l.number) + l.count ≡ length (decimal l.initial.number) + 1) × (l.number < 2 ^ 64) × (length (decimal l.initial.number) ≤ 20)

abbrev pub decreases-loop-number : goal.decreases-loop-number
decreases-loop-number l = l.number
