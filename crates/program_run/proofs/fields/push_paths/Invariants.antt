use Rattle.std.proofs.Common.{◌≡◌}
use Rattle.value_model.specs.Val.{fields_of}
use Rattle.ejson_value.specs.View.{entries}
use Rattle.program_run.specs.Parts.{paths_behind}
use Rattle.program_run.proofs.fields.push_paths.Given as goal

abbrev pub invariant-loop-path : goal.invariant-loop-path
invariant-loop-path l =
    (goal.iterator-loop-path).can_next l.path-iterator × (goal.iterator-loop-path).is_finite l.path-iterator ×
    (paths_behind l.parts (fields_of (entries l.path-iterator)) ≡ paths_behind l.initial.parts (fields_of (entries l.initial.path-iterator)))
