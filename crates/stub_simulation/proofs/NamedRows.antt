-- What a selector that names an id alone holds of.
use Rattle.std.proofs.Common.{◌≡◌, ℕ, true, false, cond, ◌&&◌, ◌||◌, List, [], ◌∷◌, Option, Some, None, Ok, Err, refl, sym, ap, subst, ◌∙◌, codes}
use Rattle.std.specs.Prelude.{nat_lt, option_and_then, Result, IfOk}
use Rattle.std.specs.Ordering.{is_eq}
use Rattle.std.specs.Cmp.{tied_itself}
use Rattle.std.proofs.lemmas.Cmp.{nat_list_cmp_total}
use Rattle.map_model.specs.Maps.{at, IsSorted}
use Rattle.value_model.specs.Val.{Val, Entries, text}
use Rattle.value_model.specs.Depth.{depth}
use Rattle.value_model.specs.Size.{size}
use Rattle.ejson_value.specs.Key.{key_cmp, key_of}
use Rattle.ejson_value.specs.Rows.{Rows}
use Rattle.selector_match.specs.Query.{Query, no_clauses, clause, at_path, no_predicates, predicate, equal}
use Rattle.selector_match.specs.Reading.{reading}
use Rattle.selector_match.specs.Holds.{holds, predicates_hold}
use Rattle.selector_match.proofs.Ids.{at_id}
use Rattle.selector_match.proofs.Naming.{named_only}
use Rattle.collection_store.specs.Applied.{matching}
use Rattle.collection_store.specs.Finding.{if_held}
use Rattle.collection_store.proofs.Named.{named_matching}
use Rattle.program_steps.specs.declared.fault.FillFault.TheVariants as fault
use Rattle.program_steps.specs.Template.{filling, limited, max_depth, max_size}
use Rattle.program_model.specs.Run.{if_ok}
use Rattle.stub_simulation.specs.Drafts.{selector_by, IsFoundBy}
use Rattle.stub_simulation.specs.Naming.{naming, row_at}

abbrev by_id : List ℕ → Query
by_id id = clause (at_path (codes "_id" ∷ []) (predicate (equal (text id)) no_predicates)) no_clauses

is_read : (id : List ℕ) → reading (naming id) ≡ Ok (by_id id)
is_read id = refl

holds_there : (id : List ℕ) (doc : Entries) → holds (by_id id) id doc ≡ true
holds_there id doc =
    ap (λ bs. predicates_hold (predicate (equal (text id)) no_predicates) bs && true) (sym (at_id (codes "_id") [] id doc refl))
    ∙ ap (λ o. ((is_eq o || false) && true) && true) (tied_itself nat_list_cmp_total id)

found_there : (collection id : List ℕ) (rows : Rows) → IsSorted key_cmp rows → matching collection (by_id id) rows ≡ row_at (key_of collection id) (at key_cmp rows (key_of collection id))
found_there collection id rows s =
    named_matching collection id (by_id id) (named_only (by_id id) id refl) rows s ∙ by (at key_cmp rows (key_of collection id))
  where
    by : (o : Option Entries) → if_held (by_id id) (key_of collection id) o ≡ row_at (key_of collection id) o
    by None = refl
    by (Some doc) = ap (λ b. cond b ((key_of collection id, doc) ∷ []) []) (holds_there id doc)

-- what a template that names an id is filled to
is_found_by_id : (params : List Val) (made : List (List ℕ)) (template : Val) (id collection : List ℕ) (rows window : Rows) → filling params made template ≡ Ok (naming id) → IsSorted key_cmp rows →
    window ≡ row_at (key_of collection id) (at key_cmp rows (key_of collection id)) → IsFoundBy (selector_by params made template) collection rows window
is_found_by_id params made template id collection rows window is s found =
    subst (λ r. IsFoundBy (option_and_then (λ v. if_ok (reading v)) (if_ok (limited r))) collection rows window) (sym is)
    (elim (nat_lt max_depth (depth (naming id)))
    as (λ b. IsFoundBy (option_and_then (λ v. if_ok (reading v)) (if_ok (cond b (Err fault.TooDeep) (cond (nat_lt max_size (size (naming id))) (Err fault.TooLarge) (Ok (naming id)))))) collection rows window) [
      | true ↦ tt
      | false ↦ elim (nat_lt max_size (size (naming id)))
          as (λ b. IsFoundBy (option_and_then (λ v. if_ok (reading v)) (if_ok (cond b (Err fault.TooLarge) (Ok (naming id))))) collection rows window) [
            | true ↦ tt
            | false ↦ found ∙ sym (found_there collection id rows s)
          ]
    ])

pub if_found_by_id : {E : Type 0} (r : Result Rows E) (params : List Val) (made : List (List ℕ)) (template : Val) (id collection : List ℕ) (rows : Rows) → filling params made template ≡ Ok (naming id) → IsSorted key_cmp rows →
    IfOk r (λ found. found ≡ row_at (key_of collection id) (at key_cmp rows (key_of collection id))) → IfOk r (IsFoundBy (selector_by params made template) collection rows)
if_found_by_id (Ok window) params made template id collection rows is s found = is_found_by_id params made template id collection rows window is s found
if_found_by_id (Err e) params made template id collection rows is s found = found
