-- Lemmas of selectors that are read part by part.
use Rattle.std.proofs.Common.{◌≡◌, ◌==◌, ℕ, true, false, codes, length, List, [], ◌∷◌, Ok, Err, refl, ap, ap₂}
use Rattle.std.specs.Prelude.{if◌then◌else◌}
use Rattle.std.specs.List.{list_all}
use Rattle.std.specs.Ordering.{is_eq}
use Rattle.std.proofs.lemmas.Map.Lookups.{exact_bytes}
use Rattle.value_model.specs.TruthLaws.{equal_of}
use Rattle.value_model.specs.Order.{text_cmp}
use Rattle.value_model.specs.Val.{Val, text, list, vals_of}
use Rattle.value_model.specs.ValLaws.{list_of-vals_of}
use Rattle.ejson_value.specs.Results.{after}
use Rattle.selector_match.specs.declared.fault.SelectorFault.TheVariants.{BadOperand}
use Rattle.selector_match.specs.Query.{Query, no_clauses, clause, Clause, query_of, no_queries, query, queries_of, no_predicates, predicate, Predicate, predicates_of}
use Rattle.selector_match.specs.Named.{has_id}
use Rattle.selector_match.specs.Reading.{clause_made, queries_reading, condition_reading, is_literal, list_operand, literals_operand, some_queries_reading, more_queries_reading}

-- the condition that `_id` is a text
pub id_clause : (n : List ℕ) (v : Val) (id : List ℕ) → is_eq (text_cmp n (codes "_id")) ≡ true → v ≡ text id → clause_made n (queries_reading v) (condition_reading v) ≡ Ok (has_id id)
id_clause n v id named is =
    let same = exact_bytes n (codes "_id") (equal_of (text_cmp n (codes "_id")) named) in
    ap₂ (λ m w. clause_made m (queries_reading w) (condition_reading w)) same is

pub after-query : (cs : List Clause) → after clause cs no_clauses ≡ query_of cs
after-query [] = refl
after-query (c ∷ cs) = ap (λ q. clause c q) (after-query cs)

pub after-queries : (qs : List Query) → after query qs no_queries ≡ queries_of qs
after-queries [] = refl
after-queries (q ∷ qs) = ap (λ r. query q r) (after-queries qs)

pub after-predicates : (ps : List Predicate) → after predicate ps no_predicates ≡ predicates_of ps
after-predicates [] = refl
after-predicates (p ∷ ps) = ap (λ r. predicate p r) (after-predicates ps)

pub list_operand-list : (vs : List Val) → list_operand (list (vals_of vs)) ≡ Ok vs
list_operand-list vs = ap (λ ws. Ok ws) (list_of-vals_of vs)

pub literals_operand-list : (vs : List Val) → literals_operand (list (vals_of vs)) ≡ (if list_all is_literal vs then Ok vs else Err BadOperand)
literals_operand-list vs = ap (λ ws. if list_all is_literal ws then Ok ws else Err BadOperand) (list_of-vals_of vs)

pub some_queries : (vs : List Val) → (length vs == 0) ≡ false → more_queries_reading (vals_of vs) ≡ some_queries_reading (vals_of vs)
some_queries [] filled = cc
some_queries (v ∷ vs) filled = refl
