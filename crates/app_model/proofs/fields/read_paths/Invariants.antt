use Rattle.std.proofs.Common.{◌≡◌, []}
use Rattle.value_model.specs.Val.{fields_of}
use Rattle.ejson_value.specs.View.{entries}
use Rattle.app_model.specs.Fields.{SameTests, paths_behind}
use Rattle.app_model.proofs.fields.read_paths.Given as goal

abbrev pub invariant-loop-name : goal.invariant-loop-name
invariant-loop-name l =
    (goal.iterator-loop-name).can_next l.name-iterator × (goal.iterator-loop-name).is_finite l.name-iterator ×
    (paths_behind l.place l.including l.paths (fields_of (entries l.name-iterator)) ≡ paths_behind l.place l.including [] (fields_of (entries l.initial.name-iterator))) ×
    SameTests l.seen l.paths
