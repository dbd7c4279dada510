-- When a selector holds of a document (query and projection operators, in MongoDB's documentation).
use Rattle.std.specs.Prelude.{ℕ, Bool, true, false, not, List, [], ◌∷◌, length, map, Option, None, Some, is_some, unwrap_or, codes, if◌then◌else◌}
use Rattle.std.specs.Prelude.{◌&&◌, ◌||◌, ◌==◌}
use Rattle.std.specs.List.{list_any, list_all, flat_map}
use Rattle.std.specs.Option.{option_map_or}
use Rattle.std.specs.declared.cmp.Ordering.{Ordering}
use Rattle.std.specs.Ordering.{is_eq, is_gt, is_ge, is_lt, is_le}
use Rattle.value_model.specs.Val.{Val, null, text, list, object, Vals, Fields, Entries, list_of, fields_of}
use Rattle.value_model.specs.Order.{kind, compare}
use Rattle.value_model.specs.Doc.{put}
use Rattle.value_model.specs.Branches.{Branch, branches}
use Rattle.selector_match.specs.Query.{Query, no_clauses, clause, Clause, all_of, any_of, none_of, at_path, Queries, no_queries, query, Predicates}
use Rattle.selector_match.specs.Query.{no_predicates, predicate, Predicate, equal, not_equal, among, not_among, greater, at_least, less, at_most}
use Rattle.selector_match.specs.Query.{present, sized, has_all, has_element, negated, ElementTest, by_predicates, by_query}

-- the list that was reached, if it is one
abbrev pub list_in : Option Val → Option Vals
list_in (Some (list vs)) = Some vs
list_in _ = None

-- the elements of a list, none of anything else
abbrev pub elements : Option Val → List Val
elements reached = option_map_or list_of (list_in reached) []

-- The candidates of a branch: what it reached, and where that is a list that doesn't count as a whole, its elements.
abbrev pub branch_candidates : Branch → List (Option Val)
branch_candidates b = b.0 ∷ (if b.1 then [] else map Some (elements b.0))

abbrev pub candidates : List Branch → List (Option Val)
candidates bs = flat_map branch_candidates bs

-- the candidate equals v, where nothing counts as null
abbrev pub equals : Val → Option Val → Bool
equals v candidate = is_eq (compare (unwrap_or candidate null) v)

-- the candidate is of the kind of v and compares so with it
abbrev pub compares : (Ordering → Bool) → Val → Option Val → Bool
compares so v None = false
compares so v (Some w) = (kind w == kind v) && so (compare w v)

-- some candidate equals v
abbrev pub has_equal : Val → List Branch → Bool
has_equal v bs = list_any (λ c. equals v c) (candidates bs)

abbrev pub has_compared : (Ordering → Bool) → Val → List Branch → Bool
has_compared so v bs = list_any (λ c. compares so v c) (candidates bs)

-- what was reached is a list of that many elements
abbrev pub has_length : ℕ → Option Val → Bool
has_length n reached = option_map_or (λ vs. length (list_of vs) == n) (list_in reached) false

abbrev pub is_empty : List Val → Bool
is_empty [] = true
is_empty (v ∷ vs) = false

abbrev pub in_object : (Fields → Bool) → Val → Bool
in_object holds (object fs) = holds fs
in_object holds _ = false

-- Selectors hold of the fields of an object, operators of the branches of a path.
abbrev mutual
  pub query_holds : Query → Fields → Bool
  query_holds no_clauses fs = true
  query_holds (clause c q) fs = clause_holds c fs && query_holds q fs

  pub clause_holds : Clause → Fields → Bool
  clause_holds (all_of qs) fs = all_hold qs fs
  clause_holds (any_of qs) fs = some_holds qs fs
  clause_holds (none_of qs) fs = not (some_holds qs fs)
  clause_holds (at_path path ps) fs = predicates_hold ps (branches path (Some (object fs)) false)

  pub all_hold : Queries → Fields → Bool
  all_hold no_queries fs = true
  all_hold (query q qs) fs = query_holds q fs && all_hold qs fs

  pub some_holds : Queries → Fields → Bool
  some_holds no_queries fs = false
  some_holds (query q qs) fs = query_holds q fs || some_holds qs fs

  pub predicates_hold : Predicates → List Branch → Bool
  predicates_hold no_predicates bs = true
  predicates_hold (predicate p ps) bs = predicate_holds p bs && predicates_hold ps bs

  pub predicate_holds : Predicate → List Branch → Bool
  predicate_holds (equal v) bs = has_equal v bs
  predicate_holds (not_equal v) bs = not (has_equal v bs)
  predicate_holds (among vs) bs = list_any (λ v. has_equal v bs) vs
  predicate_holds (not_among vs) bs = not (list_any (λ v. has_equal v bs) vs)
  predicate_holds (greater v) bs = has_compared is_gt v bs
  predicate_holds (at_least v) bs = has_compared is_ge v bs
  predicate_holds (less v) bs = has_compared is_lt v bs
  predicate_holds (at_most v) bs = has_compared is_le v bs
  predicate_holds (present wanted) bs = if wanted then list_any (λ b. is_some b.0) bs else not (list_any (λ b. is_some b.0) bs)
  predicate_holds (sized n) bs = list_any (λ b. has_length n b.0) bs
  predicate_holds (has_all vs) bs = not (is_empty vs) && list_all (λ v. has_equal v bs) vs
  predicate_holds (has_element t) bs = list_any (λ b. list_any (λ v. fits t v) (elements b.0)) bs
  predicate_holds (negated ps) bs = not (predicates_hold ps bs)

  -- An element is tested as a branch that counts as a whole, or by its fields where it is an object.
  pub fits : ElementTest → Val → Bool
  fits (by_predicates ps) v = predicates_hold ps ((Some v, true) ∷ [])
  fits (by_query q) v = in_object (λ fs. query_holds q fs) v

-- A document is looked at with its id as the field `_id`.
abbrev pub with_id : List ℕ → Entries → Fields
with_id id doc = fields_of (put doc (codes "_id") (text id))

-- the selector holds of the document with this id
abbrev pub holds : Query → List ℕ → Entries → Bool
holds q id doc = query_holds q (with_id id doc)
