use Rattle.std.proofs.Common.{◌≡◌, take}
use Rattle.ejson_value.specs.View.{views}
use Rattle.drive_script.specs.Scripts.{IsReadAs}
use Rattle.drive_script.proofs.script.Script.read.Given as goal

abbrev pub invariant-loop-value : goal.invariant-loop-value
invariant-loop-value l = record {
  read : IsReadAs (views (take l.value-index l.value-items)) l.script;
  count : l.number ≡ l.value-index;
}
