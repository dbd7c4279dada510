use Rattle.std.proofs.Common.{◌≡◌, ◌++◌, drop}
use Rattle.ejson_value.specs.View.{views}
use Rattle.drive_script.proofs.reading.put_all.Given as goal

abbrev pub invariant-loop-value : goal.invariant-loop-value
invariant-loop-value l = l.items ++ views (drop l.value-index l.values) ≡ l.initial.items ++ views l.values
