-- What the walk over a document asks, and of what.
use Rattle.std.specs.Prelude.{ℕ, Bool, true, false, List, [], ◌∷◌, Option, None, Some, is_some}
use Rattle.std.specs.List.{list_any}
use Rattle.std.specs.Borrow.{Bor}
use Rattle.std.specs.Ordering.{is_gt, is_ge, is_lt, is_le}
use Rattle.value_model.specs.Val.{Val, text, object, Entries, Fields, fields_of}
use Rattle.value_model.specs.Branches.{Branch, branches}
use Rattle.ejson_value.specs.View.{view}
use Rattle.selector_match.specs.Holds.{branch_candidates, equals, compares, has_length, with_id}
use Rattle.selector_match.specs.declared.asking.Relation.{Relation}
use Rattle.selector_match.specs.declared.asking.Relation.TheVariants as relation
use Rattle.selector_match.specs.declared.asking.Criterion.{Criterion}
use Rattle.selector_match.specs.declared.asking.Criterion.TheVariants as criterion
use Rattle.selector_match.specs.declared.asking.Question.{Question}
use Rattle.selector_match.specs.declared.asking.Question.TheVariants as question
use Rattle.selector_match.specs.declared.asking.Subject.{Subject}
use Rattle.selector_match.specs.declared.asking.Subject.TheVariants as subject

abbrev pub relates : Relation → Val → Option Val → Bool
relates relation.Equal v c = equals v c
relates relation.Greater v c = compares is_gt v c
relates relation.AtLeast v c = compares is_ge v c
relates relation.Less v c = compares is_lt v c
relates relation.AtMost v c = compares is_le v c

-- what a candidate has to meet
abbrev pub meets : Criterion → Option Val → Bool
meets (criterion.Relates r v) c = relates r (view v.now) c
meets (criterion.Among vs) c = list_any (λ v. equals v c) vs.now
meets (criterion.IsText t) c = equals (text t.now) c

-- what a question says of one branch
abbrev pub asked : Question → Option Val → Bool → Bool
asked (question.Candidate k) x whole = list_any (λ c. meets k c) (branch_candidates (x, whole))
asked question.Present x whole = is_some x
asked (question.HasLength n) x whole = has_length n x

abbrev pub subject_branches : Subject → List Branch
subject_branches (subject.Branches doc path) = branches path.now (Some (object (fields_of doc.now))) false
subject_branches (subject.Element v) = (Some (view v.now), true) ∷ []
subject_branches (subject.Id id) = (Some (text id.now), false) ∷ []
subject_branches subject.Nothing = (None, false) ∷ []

-- A selector at the top looks at the document with its id, one inside an element at the element alone.
abbrev pub fields_seen : Option (Bor (List ℕ)) → Entries → Fields
fields_seen None doc = fields_of doc
fields_seen (Some id) doc = with_id id.now doc
