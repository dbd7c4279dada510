use Rattle.std.proofs.Common.{◌≡◌, []}
use Rattle.value_model.specs.Val.{fields_of}
use Rattle.ejson_value.specs.View.{entries}
use Rattle.app_model.specs.Reading.{publications_put}
use Rattle.app_model.proofs.app.put_publications.Given as goal

abbrev pub invariant-loop-name : goal.invariant-loop-name
invariant-loop-name l =
    (goal.iterator-loop-name).can_next l.name-iterator × (goal.iterator-loop-name).is_finite l.name-iterator ×
    (publications_put l.collections l.publications.entries (fields_of (entries l.name-iterator)) ≡ publications_put l.collections [] (fields_of (entries l.initial.name-iterator)))
