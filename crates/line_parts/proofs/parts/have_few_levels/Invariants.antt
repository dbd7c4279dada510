use Rattle.std.proofs.Common.{◌≡◌, drop}
use Rattle.std.specs.Prelude.{nat_le}
use Rattle.std.specs.List.{list_all}
use Rattle.value_model.specs.Depth.{depth}
use Rattle.ejson_value.specs.View.{views}
use Rattle.ejson_codec.specs.Reading.{max_levels}
use Rattle.line_parts.proofs.parts.have_few_levels.Given as goal

abbrev pub invariant-loop-value : goal.invariant-loop-value
invariant-loop-value l = list_all (λ v. nat_le (depth v) max_levels) (views (drop l.value-index l.values)) ≡ list_all (λ v. nat_le (depth v) max_levels) (views l.values)
