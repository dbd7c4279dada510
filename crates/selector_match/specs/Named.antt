-- The id that a selector names: the text that `_id` must equal by one of its conditions.
use Rattle.std.specs.Prelude.{ℕ, Bool, true, false, codes, List, [], ◌∷◌, Option, None, Some}
use Rattle.std.specs.Ordering.{is_eq}
use Rattle.value_model.specs.Val.{Val, text}
use Rattle.value_model.specs.Order.{text_cmp}
use Rattle.selector_match.specs.Query.{Query, no_clauses, clause, Clause, at_path, Predicates, no_predicates, predicate, Predicate, equal}

-- the condition that a document has this id, and the selector of it alone
abbrev pub has_id : List ℕ → Clause
has_id id = at_path (codes "_id" ∷ []) (predicate (equal (text id)) no_predicates)

abbrev pub by_id : List ℕ → Query
by_id id = clause (has_id id) no_clauses

abbrev pub first_of_both : {X : Type 0} → Option X → Option X → Option X
first_of_both None b = b
first_of_both (Some x) b = Some x

abbrev pub text_in : Val → Option (List ℕ)
text_in (text t) = Some t
text_in _ = None

-- the text of `$eq` by a text
abbrev pub named_by_predicate : Predicate → Option (List ℕ)
named_by_predicate (equal v) = text_in v
named_by_predicate _ = None

abbrev pub named_by_predicates : Predicates → Option (List ℕ)
named_by_predicates no_predicates = None
named_by_predicates (predicate p ps) = first_of_both (named_by_predicate p) (named_by_predicates ps)

abbrev pub is_id_path : List (List ℕ) → Bool
is_id_path (part ∷ []) = is_eq (text_cmp part (codes "_id"))
is_id_path _ = false

abbrev pub if_true : {X : Type 0} → Bool → Option X → Option X
if_true true x = x
if_true false x = None

abbrev pub named_by_clause : Clause → Option (List ℕ)
named_by_clause (at_path path ps) = if_true (is_id_path path) (named_by_predicates ps)
named_by_clause _ = None

abbrev pub named_id : Query → Option (List ℕ)
named_id no_clauses = None
named_id (clause c q) = first_of_both (named_by_clause c) (named_id q)
