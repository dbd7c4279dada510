-- A document with its id as a field.
use Rattle.std.proofs.Common.{◌≡◌, ◌==◌, ◌&&◌, ◌||◌, ℕ, Bool, true, false, cond, List, [], ◌∷◌, length, Option, Some, None, refl, ap, sym, ◌∙◌, codes}
use Rattle.std.specs.declared.cmp.Ordering.{Ordering}
use Rattle.std.specs.declared.cmp.Ordering.TheVariants.{Less, Equal, Greater}
use Rattle.std.specs.List.{list_any}
use Rattle.std.specs.Ordering.{match_ordering, is_eq}
use Rattle.std.proofs.Common.{arith}
use Rattle.std.proofs.lemmas.Bool.Decides.{nat_tests}
use Rattle.std.proofs.lemmas.Cmp.{nat_list_cmp_total}
use Rattle.std.proofs.lemmas.Map.Lookups.{exact_bytes}
use Rattle.value_model.specs.TruthLaws.{equal_of}
use Rattle.value_model.specs.Val.{Val, text, object, Entries, fields_of}
use Rattle.value_model.specs.ValLaws.{entries_of-fields_of}
use Rattle.value_model.specs.Order.{text_cmp}
use Rattle.value_model.specs.OrderLaws.{own_reverse_ties}
use Rattle.value_model.specs.Doc.{get, put}
use Rattle.value_model.specs.Branches.{branches}
use Rattle.ejson_value.proofs.Branching.{list_any-flat_map}
use Rattle.selector_match.specs.Query.{no_predicates, predicate, equal}
use Rattle.selector_match.specs.Named.{has_id}
use Rattle.selector_match.specs.Holds.{with_id, equals, branch_candidates, clause_holds, predicates_hold}

ties : (k : List ℕ) → text_cmp k k ≡ Equal
ties k = own_reverse_ties (text_cmp k k) (nat_list_cmp_total.antisymm k k)

-- what stands at a name that was put
pub get-put_same : (es : Entries) (k : List ℕ) (v : Val) → get (put es k v) k ≡ Some v
get-put_same [] k v = ap (λ o. cond (is_eq o) (Some v) None) (ties k)
get-put_same (e ∷ es) k v = by (get-put_same es k v) (text_cmp k e.0) refl
  where
    by : get (put es k v) k ≡ Some v → (o : Ordering) → text_cmp k e.0 ≡ o → get (match_ordering o ((k, v) ∷ e ∷ es) ((e.0, v) ∷ es) (e ∷ put es k v)) k ≡ Some v
    by below Less is = ap (λ o. cond (is_eq o) (Some v) (get (e ∷ es) k)) (ties k)
    by below Equal is = ap (λ o. cond (is_eq o) (Some v) (get es k)) is
    by below Greater is = ap (λ o. cond (is_eq o) (Some e.1) (get (put es k v) k)) is ∙ below

-- and at another name
pub get-put_other : (es : Entries) (k q : List ℕ) (v : Val) → is_eq (text_cmp q k) ≡ false → get (put es k v) q ≡ get es q
get-put_other [] k q v apart = ap (λ b. cond b (Some v) None) apart
get-put_other (e ∷ es) k q v apart = by (get-put_other es k q v apart) (text_cmp k e.0) refl
  where
    by : get (put es k v) q ≡ get es q → (o : Ordering) → text_cmp k e.0 ≡ o → get (match_ordering o ((k, v) ∷ e ∷ es) ((e.0, v) ∷ es) (e ∷ put es k v)) q ≡ get (e ∷ es) q
    by below Less is = ap (λ b. cond b (Some v) (get (e ∷ es) q)) apart
    by below Equal is =
        let here : is_eq (text_cmp q e.0) ≡ false = ap (λ n. is_eq (text_cmp q n)) (sym (exact_bytes k e.0 is)) ∙ apart in
        ap (λ b. cond b (Some v) (get es q)) here ∙ sym (ap (λ b. cond b (Some e.1) (get es q)) here)
    by below Greater is = ap (λ r. cond (is_eq (text_cmp q e.0)) (Some e.1) r) below

-- a path that begins with another name than `_id`
pub past_id : (part : List ℕ) (rest : List (List ℕ)) (id : List ℕ) (doc : Entries) → is_eq (text_cmp part (codes "_id")) ≡ false →
    branches (part ∷ rest) (Some (object (fields_of doc))) false ≡ branches (part ∷ rest) (Some (object (with_id id doc))) false
past_id part rest id doc apart =
    ap (λ x. branches rest x false)
    (ap (λ es. get es part) (entries_of-fields_of doc)
    ∙ (sym (get-put_other doc (codes "_id") part (text id) apart)
    ∙ ap (λ es. get es part) (sym (entries_of-fields_of (put doc (codes "_id") (text id))))))

-- a path that begins with `_id`
pub at_id : (part : List ℕ) (rest : List (List ℕ)) (id : List ℕ) (doc : Entries) → is_eq (text_cmp part (codes "_id")) ≡ true →
    branches rest (Some (text id)) false ≡ branches (part ∷ rest) (Some (object (with_id id doc))) false
at_id part rest id doc same =
    sym (ap (λ x. branches rest x false)
    (ap (λ es. get es part) (entries_of-fields_of (put doc (codes "_id") (text id)))
    ∙ (ap (λ n. get (put doc (codes "_id") (text id)) n) (exact_bytes part (codes "_id") (equal_of (text_cmp part (codes "_id")) same))
    ∙ get-put_same doc (codes "_id") (text id))))

-- a text has no parts
pub through_text : (rest : List (List ℕ)) (id : List ℕ) → (length rest == 0) ≡ false → (None, false) ∷ [] ≡ branches rest (Some (text id)) false
through_text [] id filled = cc
through_text (part ∷ rest) id filled = refl

pub no_parts : (rest : List (List ℕ)) → (length rest == 0) ≡ true → rest ≡ []
no_parts [] e = refl
no_parts (part ∷ rest) e = grind (arith, nat_tests, e)

or_and : (a : Bool) → a ≡ ((a || false) && true)
or_and true = refl
or_and false = refl

-- the condition on an id, of a document with an id
pub has_id-given : (wanted id : List ℕ) (doc : Entries) → is_eq (text_cmp id wanted) ≡ clause_holds (has_id wanted) (with_id id doc)
has_id-given wanted id doc =
    or_and (is_eq (text_cmp id wanted))
    ∙ ap (λ bs. predicates_hold (predicate (equal (text wanted)) no_predicates) bs) (at_id (codes "_id") [] id doc refl)

-- and of an object, by its field
pub has_id-field : (wanted : List ℕ) (doc : Entries) (o : Option Val) → o ≡ get doc (codes "_id") →
    list_any (λ c. equals (text wanted) c) (branch_candidates (o, false)) ≡ clause_holds (has_id wanted) (fields_of doc)
has_id-field wanted doc o is =
    or_and (list_any (λ c. equals (text wanted) c) (branch_candidates (o, false)))
    ∙ (ap (λ a. a && true) (sym (list_any-flat_map (λ c. equals (text wanted) c) branch_candidates ((o, false) ∷ [])))
    ∙ ap (λ x. predicates_hold (predicate (equal (text wanted)) no_predicates) ((x, false) ∷ [])) (is ∙ ap (λ es. get es (codes "_id")) (sym (entries_of-fields_of doc))))
