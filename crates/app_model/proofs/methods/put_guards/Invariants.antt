use Rattle.std.proofs.Common.{◌≡◌, []}
use Rattle.value_model.specs.Val.{fields_of}
use Rattle.ejson_value.specs.View.{entries}
use Rattle.app_model.specs.Reading.{guards_put}
use Rattle.app_model.proofs.methods.put_guards.Given as goal

abbrev pub invariant-loop-name : goal.invariant-loop-name
invariant-loop-name l =
    (goal.iterator-loop-name).can_next l.name-iterator × (goal.iterator-loop-name).is_finite l.name-iterator ×
    (guards_put l.collections l.methods.entries l.guards.entries (fields_of (entries l.name-iterator)) ≡ guards_put l.collections l.methods.entries [] (fields_of (entries l.initial.name-iterator)))
