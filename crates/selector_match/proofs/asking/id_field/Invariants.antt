use Rattle.std.proofs.Common.{◌≡◌, codes}
use Rattle.value_model.specs.Doc.{get}
use Rattle.ejson_value.specs.View.{entries}
use Rattle.selector_match.proofs.asking.id_field.Given as goal

abbrev pub invariant-loop-name : goal.invariant-loop-name
invariant-loop-name l =
    (goal.iterator-loop-name).can_next l.name-iterator × (goal.iterator-loop-name).is_finite l.name-iterator ×
    (get (entries l.name-iterator) (codes "_id") ≡ get (entries l.initial.name-iterator) (codes "_id"))
