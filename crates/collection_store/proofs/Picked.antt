-- Changes of some of the rows, in their order: they are of different documents, and fit.
use Rattle.std.specs.Prelude.{sum_by, filter, take, if◌then◌else◌}
use Rattle.std.specs.List.{AllByRecursion, IsDistinct}
use Rattle.std.specs.Map.{keys_of}
use Rattle.std.specs.declared.cmp.Ordering.TheVariants.{Less}
use Rattle.std.specs.Ordering.{is_eq, eq_by_cmp, ordering_reverse}
use Rattle.std.proofs.Common.{◌≡◌, ℕ, ◌+◌, Bool, true, false, cond, List, [], ◌∷◌, map, length, Option, Some, None, Ok, Err, refl, ap, sym, subst, ◌∙◌, arith}
use Rattle.std.proofs.lemmas.List.Sums.{sum_by-cons}
use Rattle.std.proofs.lemmas.List.Elements.{All-nil, All-cons, All-head, All-tail}
use Rattle.std.proofs.lemmas.Map.Keys.{sorted_head, sorted_tail}
use Rattle.map_model.specs.Maps.{at, IsSorted}
use Rattle.map_model.specs.MapLaws.{eq_by_cmp-self}
use Rattle.value_model.specs.Val.{Entries}
use Rattle.value_model.specs.Size.{is_name}
use Rattle.ejson_value.specs.declared.key.Key.{Key}
use Rattle.ejson_value.specs.declared.change.Change.{Change}
use Rattle.ejson_value.specs.Key.{key_cmp, key_total, key_order}
use Rattle.ejson_value.specs.Rows.{Rows, rows_of}
use Rattle.ejson_value.specs.ChangeLaws.{AllFit, HaveDistinctKeys}
use Rattle.ejson_value.specs.Results.{with_both}
use Rattle.ejson_value.specs.ResultLaws.{and_then-ok}
use Rattle.selector_match.specs.Query.{Query}
use Rattle.selector_match.specs.Holds.{holds}
use Rattle.modifier_apply.specs.Change.{Modification}
use Rattle.modifier_apply.specs.Modified.{modified, same}
use Rattle.collection_store.specs.declared.fault.OpFault.TheVariants as fault
use Rattle.collection_store.specs.Outcome.{Outcome}
use Rattle.collection_store.specs.Limits.{document, is_too_large, new_bytes, size_if}
use Rattle.collection_store.specs.Applied.{Row, matching, chosen, after, change_to, removal, insertion, or_refused, change_if_differs, updated, with_change, all_updated}
use Rattle.collection_store.specs.Answered.{AreFor}
use Rattle.collection_store.proofs.Sums.{one_if, length-after}

-- each change is of one of the rows, in their order
pub data Picked : Rows → List Change → Type 0 where
  none : Picked [] []
  skip : {row : Row} {rows : Rows} {cs : List Change} → Picked rows cs → Picked (row ∷ rows) cs
  pick : {row : Row} {rows : Rows} {c : Change} {cs : List Change} → c.key ≡ row.0 → c.before ≡ Some row.1 → Picked rows cs → Picked (row ∷ rows) (c ∷ cs)

skip_all : (rows : Rows) → Picked rows []
skip_all [] = none
skip_all (row ∷ rows) = skip (skip_all rows)

lifted : {inner rows : Rows} {row : Row} {cs : List Change} → ((ds : List Change) → Picked inner ds → Picked rows ds) → Picked (row ∷ inner) cs → Picked (row ∷ rows) cs
lifted lift (skip p) = skip (lift _ p)
lifted lift (pick k b p) = pick k b (lift _ p)

pub picked_of_filter : (test : Row → Bool) (rows : Rows) (cs : List Change) → Picked (filter test rows) cs → Picked rows cs
picked_of_filter test [] cs p = p
picked_of_filter test (row ∷ rows) cs p =
    elim (test row) as (λ b. Picked (cond b (row ∷ filter test rows) (filter test rows)) cs → Picked (row ∷ rows) cs) [
      | true ↦ λ q. lifted (λ ds r. picked_of_filter test rows ds r) q
      | false ↦ λ q. skip (picked_of_filter test rows cs q)
    ] p

of_none : (rows : Rows) (cs : List Change) → Picked [] cs → Picked rows cs
of_none rows [] none = skip_all rows
of_none rows (c ∷ cs) p = elim p [ ]

of_first : (rows : Rows) (cs : List Change) → Picked (take 1 rows) cs → Picked rows cs
of_first [] cs p = p
of_first (row ∷ rows) cs p = lifted (λ ds r. of_none rows ds r) p

of_chosen : (all : Bool) (rows : Rows) (cs : List Change) → Picked (chosen all rows) cs → Picked rows cs
of_chosen true rows cs p = p
of_chosen false rows cs p = of_first rows cs p

pub of_matching : (collection : List ℕ) (selector : Query) (rows : Rows) (cs : List Change) → Picked (matching collection selector rows) cs → Picked rows cs
of_matching collection selector rows cs p =
    picked_of_filter (λ row. is_name row.0.collection collection) rows cs (picked_of_filter (λ row. holds selector row.0.id row.1) (rows_of collection rows) cs p)

pub of_chosen_matching : (all : Bool) (collection : List ℕ) (selector : Query) (rows : Rows) (cs : List Change) → Picked (chosen all (matching collection selector rows)) cs → Picked rows cs
of_chosen_matching all collection selector rows cs p = of_matching collection selector rows cs (of_chosen all (matching collection selector rows) cs p)

-- the keys of the changes are behind what the keys of the rows are behind
keys_behind : (first : Key) (rows : Rows) (cs : List Change) → Picked rows cs → AllByRecursion (λ k. key_cmp first k ≡ Less) (keys_of rows) → AllByRecursion (λ k. key_cmp first k ≡ Less) (map (λ (c : Change). c.key) cs)
keys_behind first [] [] none h = tt
keys_behind first [] (c ∷ cs) p h = elim p [ ]
keys_behind first (row ∷ rows) cs (skip p) h = keys_behind first rows cs p h.1
keys_behind first (row ∷ rows) (c ∷ cs) (pick k b p) h = (ap (λ q. key_cmp first q) k ∙ h.0, keys_behind first rows cs p h.1)

apart_from : (first : Key) (ks : List Key) → AllByRecursion (λ k. key_cmp first k ≡ Less) ks → AllByRecursion (λ k. eq_by_cmp key_cmp first k ≡ false) ks
apart_from first [] h = tt
apart_from first (k ∷ ks) h = (ap is_eq h.0, apart_from first ks h.1)

apart : (rows : Rows) (cs : List Change) → IsSorted key_cmp rows → Picked rows cs → HaveDistinctKeys cs
unfolding IsDistinct
apart [] [] s none = tt
apart [] (c ∷ cs) s p = elim p [ ]
apart (row ∷ rows) cs s (skip p) = apart rows cs (sorted_tail key_cmp row.0 (keys_of rows) s) p
apart (row ∷ rows) (c ∷ cs) s (pick k b p) = (
  subst (λ q. AllByRecursion (λ y. eq_by_cmp key_cmp q y ≡ false) (map (λ (c : Change). c.key) cs)) (sym k)
      (apart_from row.0 (map (λ (c : Change). c.key) cs) (keys_behind row.0 rows cs p (sorted_head key_cmp row.0 (keys_of rows) s))),
  apart rows cs (sorted_tail key_cmp row.0 (keys_of rows) s) p,
)

-- a row before the others is at none of their keys
fit_behind : (row : Row) (rows : Rows) (cs : List Change) → AllByRecursion (λ k. key_cmp row.0 k ≡ Less) (map (λ (c : Change). c.key) cs) → AllFit rows cs → AllFit (row ∷ rows) cs
fit_behind row rows [] h fit = All-nil (λ (c : Change). at key_cmp (row ∷ rows) c.key ≡ c.before)
fit_behind row rows (c ∷ cs) h fit =
    let P = λ (c : Change). at key_cmp (row ∷ rows) c.key ≡ c.before in
    let Q = λ (c : Change). at key_cmp rows c.key ≡ c.before in
    All-cons P c cs
    (ap (λ o. cond (is_eq o) (Some row.1) (at key_cmp rows c.key)) (key_total.antisymm c.key row.0 ∙ ap ordering_reverse h.0) ∙ All-head Q c cs fit)
    (fit_behind row rows cs h.1 (All-tail Q c cs fit))

fits : (rows : Rows) (cs : List Change) → IsSorted key_cmp rows → Picked rows cs → AllFit rows cs
fits [] [] s none = All-nil (λ (c : Change). at key_cmp [] c.key ≡ c.before)
fits [] (c ∷ cs) s p = elim p [ ]
fits (row ∷ rows) cs s (skip p) =
    fit_behind row rows cs (keys_behind row.0 rows cs p (sorted_head key_cmp row.0 (keys_of rows) s)) (fits rows cs (sorted_tail key_cmp row.0 (keys_of rows) s) p)
fits (row ∷ rows) (c ∷ cs) s (pick k b p) =
    All-cons (λ (c : Change). at key_cmp (row ∷ rows) c.key ≡ c.before) c cs
    (ap (λ q. at key_cmp (row ∷ rows) q) k ∙ (ap (λ t. cond t (Some row.1) (at key_cmp rows row.0)) (eq_by_cmp-self key_order row.0) ∙ sym b))
    (fit_behind row rows cs (keys_behind row.0 rows cs p (sorted_head key_cmp row.0 (keys_of rows) s)) (fits rows cs (sorted_tail key_cmp row.0 (keys_of rows) s) p))

pub AreFor-from_picked : (rows : Rows) (cs : List Change) → IsSorted key_cmp rows → Picked rows cs → AreFor rows cs
AreFor-from_picked rows cs s p = record { fit = fits rows cs s p; apart = apart rows cs s p }

-- what takes rows out
pub picked_removals : (rows : Rows) → Picked rows (map removal rows)
picked_removals [] = none
picked_removals (row ∷ rows) = pick refl refl (picked_removals rows)

pub no_new_bytes : (rows : Rows) → new_bytes (map removal rows) ≡ 0
no_new_bytes [] = refl
no_new_bytes (row ∷ rows) = omega (arith, no_new_bytes rows, sum_by-cons (λ (c : Change). size_if c.after) (removal row) (map removal rows))

-- what updates rows
both_ok : {A B C : Type 0} (f : A → B → C) (a : Outcome A) (b : Outcome B) (w : C) → with_both f a b ≡ Ok w → (x : A) × (y : B) × (a ≡ Ok x) × (b ≡ Ok y) × (f x y ≡ w)
both_ok f (Err e) b w is = absurd (cc is)
both_ok f (Ok x) (Err e) w is = absurd (cc is)
both_ok f (Ok x) (Ok y) w is = (x, y, refl, refl, cc is)

-- an update leaves the document, or changes it to another
updated_is : (modifier : Modification) (row : Row) (o : Option Change) → updated modifier row ≡ Ok o → (doc : Entries) × (o ≡ change_if_differs row doc)
updated_is modifier row o is =
    let made = and_then-ok (or_refused (modified modifier row.0.id row.1)) (λ doc. if is_too_large doc then Err fault.TooLarge else Ok (change_if_differs row doc)) o is in
    (made.0, by (is_too_large made.0) (change_if_differs row made.0) made.2)
  where
    by : (b : Bool) (p : Option Change) → (if b then Err fault.TooLarge else Ok p) ≡ Ok o → o ≡ p
    by true p e = absurd (cc e)
    by false p e = cc e

picked_by : (row : Row) (rows : Rows) (doc : Entries) (b : Bool) (cs : List Change) → Picked rows cs → Picked (row ∷ rows) (with_change (if b then None else Some (change_to row doc)) cs)
picked_by row rows doc true cs p = skip p
picked_by row rows doc false cs p = pick refl refl p

pub picked_updates : (modifier : Modification) (rows : Rows) (cs : List Change) → all_updated modifier rows ≡ Ok cs → Picked rows cs
picked_updates modifier [] cs is = let e : cs ≡ [] = cc is in subst (λ ds. Picked [] ds) (sym e) none
picked_updates modifier (row ∷ rows) cs is =
    let parts = both_ok with_change (updated modifier row) (all_updated modifier rows) cs is in
    let made = updated_is modifier row parts.0 parts.2 in
    subst (λ ds. Picked (row ∷ rows) ds) (ap (λ o. with_change o parts.1) (sym made.1) ∙ parts.4)
    (picked_by row rows made.0 (same (document row.1) (document made.0)) parts.1 (picked_updates modifier rows parts.1 parts.3))

even_by : (row : Row) (doc : Entries) (b : Bool) (cs : List Change) → sum_by (λ (c : Change). one_if c.before) cs ≡ sum_by (λ (c : Change). one_if c.after) cs →
    sum_by (λ (c : Change). one_if c.before) (with_change (if b then None else Some (change_to row doc)) cs) ≡ sum_by (λ (c : Change). one_if c.after) (with_change (if b then None else Some (change_to row doc)) cs)
even_by row doc true cs e = e
even_by row doc false cs e = omega (arith, e, sum_by-cons (λ (c : Change). one_if c.before) (change_to row doc) cs, sum_by-cons (λ (c : Change). one_if c.after) (change_to row doc) cs)

even : (modifier : Modification) (rows : Rows) (cs : List Change) → all_updated modifier rows ≡ Ok cs → sum_by (λ (c : Change). one_if c.before) cs ≡ sum_by (λ (c : Change). one_if c.after) cs
even modifier [] cs is = let e : cs ≡ [] = cc is in ap (λ ds. sum_by (λ (c : Change). one_if c.before) ds) e ∙ sym (ap (λ ds. sum_by (λ (c : Change). one_if c.after) ds) e)
even modifier (row ∷ rows) cs is =
    let parts = both_ok with_change (updated modifier row) (all_updated modifier rows) cs is in
    let made = updated_is modifier row parts.0 parts.2 in
    subst (λ ds. sum_by (λ (c : Change). one_if c.before) ds ≡ sum_by (λ (c : Change). one_if c.after) ds) (ap (λ o. with_change o parts.1) (sym made.1) ∙ parts.4)
    (even_by row made.0 (same (document row.1) (document made.0)) parts.1 (even modifier rows parts.1 parts.3))

-- updates leave as many documents as there were
pub length-updates : (modifier : Modification) (found rows : Rows) (cs : List Change) → IsSorted key_cmp rows → AreFor rows cs → all_updated modifier found ≡ Ok cs → length (after rows cs) ≡ length rows
length-updates modifier found rows cs s for is = omega (arith, length-after rows cs s for, even modifier found cs is)

-- an insert
pub AreFor-insertion : (rows : Rows) (key : Key) (doc : Entries) → at key_cmp rows key ≡ None → AreFor rows (insertion key doc).changes
unfolding IsDistinct
AreFor-insertion rows key doc none_there =
    let change : Change = record { key = key; before = None; after = Some doc } in
    let P = λ (c : Change). at key_cmp rows c.key ≡ c.before in
    record { fit = All-cons P change [] none_there (All-nil P); apart = (tt, tt) }

pub length-insertion : (rows : Rows) (key : Key) (doc : Entries) → IsSorted key_cmp rows → at key_cmp rows key ≡ None → length (after rows (insertion key doc).changes) ≡ length rows + 1
length-insertion rows key doc s none_there = omega (arith, length-after rows (insertion key doc).changes s (AreFor-insertion rows key doc none_there))
