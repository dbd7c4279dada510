use Rattle.std.proofs.Common.{◌≡◌, ◌+◌, ◌<◌, ◌^◌, drop}
use Rattle.value_model.specs.Val.{vals_of}
use Rattle.value_model.specs.Size.{vals_size}
use Rattle.ejson_value.specs.View.{views}
use Rattle.ejson_value.specs.Measure.{capped}
use Rattle.history_log.proofs.kept.list_size.Given as goal

abbrev pub invariant-loop-value : goal.invariant-loop-value
invariant-loop-value l =
    (capped (l.inside + vals_size (vals_of (views (drop l.value-index l.values)))) ≡ capped (vals_size (vals_of (views l.values)))) × (l.inside < 2 ^ 64)
