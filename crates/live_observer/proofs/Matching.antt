-- The documents that match by id, and what a window of them shows.
use Rattle.std.proofs.Common.{◌≡◌, ℕ, ◌+◌, Bool, true, false, cond, List, [], ◌∷◌, map, option_map, Option, None, Some, refl, ap, sym, subst, ◌∙◌, arith}
use Rattle.std.specs.Prelude.{count_by, filter, option_and_then, ◌&&◌, nat_lt, if◌then◌else◌}
use Rattle.std.specs.List.{AllByRecursion}
use Rattle.std.specs.List.Sorted.{IsStrictlySortedBy}
use Rattle.std.specs.declared.cmp.Ordering.TheVariants.{Less, Equal}
use Rattle.std.specs.Ordering.{is_eq, ordering_then, eq_by_cmp}
use Rattle.std.specs.Map.{keys_of}
use Rattle.std.proofs.lemmas.Cmp.{tied_itself, nat_list_cmp_total}
use Rattle.std.proofs.lemmas.Map.Keys.{sorted_head, sorted_tail}
use Rattle.std.proofs.lemmas.Map.Entries.{option_filter}
use Rattle.std.proofs.lemmas.Slice.Eq.{bytes_eq-Decides}
use Rattle.map_model.specs.Maps.{at, IsSorted}
use Rattle.map_model.specs.MapLaws.{at-filter, sorted-filter}
use Rattle.value_model.specs.Val.{Entries, fields_of, entries_of}
use Rattle.value_model.specs.Size.{is_name}
use Rattle.value_model.specs.Order.{text_cmp}
use Rattle.ejson_value.specs.declared.key.Key.{Key}
use Rattle.ejson_value.specs.Key.{key_cmp, key_of, key_order, name_order}
use Rattle.ejson_value.specs.Rows.{Rows, rows_of}
use Rattle.selector_match.specs.Holds.{holds}
use Rattle.sort_window.specs.declared.rows.Row.{Row}
use Rattle.sort_window.specs.Sorting.{is_before}
use Rattle.sort_window.specs.Shown.{RowMap, rows_before, shown_at}
use Rattle.sort_window.proofs.Ordered.{count-cons}
use Rattle.publication.specs.declared.cursor.Cursor.{Cursor}
use Rattle.publication.specs.Projected.{projected}
use Rattle.publication.specs.Published.{Documents, document_of, matching, rank, is_within, published_of}
use Rattle.live_observer.specs.Observing.{row_of, window_rows}
use Rattle.live_observer.specs.Noting.{seen, row_if, row_at}

pub own_name : (name : List ℕ) → is_name name name ≡ true
own_name name = (bytes_eq-Decides name name).1 refl

-- keys of one collection go by id
pub same_collection : (c : List ℕ) (a b : Key) → a.collection ≡ c → b.collection ≡ c → key_cmp a b ≡ text_cmp a.id b.id
same_collection c a b e f =
    let tie : text_cmp a.collection b.collection ≡ Equal = ap (λ x. text_cmp x b.collection) e ∙ ap (text_cmp c) f ∙ tied_itself nat_list_cmp_total c in
    ap (λ o. ordering_then o (text_cmp a.id b.id)) tie

abbrev pub IsOf : List ℕ → Rows → Type 0
IsOf c [] = Unit {0}
IsOf c (row ∷ rows) = (row.0.collection ≡ c) × IsOf c rows

pub of_collection : (c : List ℕ) (rows : Rows) → IsOf c (rows_of c rows)
of_collection c [] = tt
of_collection c (row ∷ rows) =
    elim (is_name row.0.collection c) as (λ b. is_name row.0.collection c ≡ b → IsOf c (cond b (row ∷ rows_of c rows) (rows_of c rows))) [
      | true ↦ λ e. ((bytes_eq-Decides row.0.collection c).0 e, of_collection c rows)
      | false ↦ λ e. of_collection c rows
    ] refl

below : (c : List ℕ) (k : Key) (rows : Rows) → k.collection ≡ c → IsOf c rows → AllByRecursion (λ q. key_cmp k q ≡ Less) (keys_of rows) → AllByRecursion (λ q. text_cmp k.id q ≡ Less) (keys_of (map document_of rows))
below c k [] e of all = tt
below c k (row ∷ rows) e of all = (sym (same_collection c k row.0 e of.0) ∙ all.0, below c k rows e of.1 all.1)

docs_sorted : (c : List ℕ) (rows : Rows) → IsOf c rows → IsSorted key_cmp rows → IsSorted text_cmp (map document_of rows)
unfolding IsStrictlySortedBy
docs_sorted c [] of s = tt
docs_sorted c (row ∷ rows) of s = (below c row.0 rows of.0 of.1 (sorted_head key_cmp _ _ s), docs_sorted c rows of.1 (sorted_tail key_cmp _ _ s))

at_docs : (c : List ℕ) (rows : Rows) (id : List ℕ) → IsOf c rows → at text_cmp (map document_of rows) id ≡ at key_cmp rows (key_of c id)
at_docs c [] id of = refl
at_docs c (row ∷ rows) id of =
    let same : is_eq (text_cmp id row.0.id) ≡ is_eq (key_cmp (key_of c id) row.0) = ap is_eq (sym (same_collection c (key_of c id) row.0 refl of.0)) in
    ap (λ b. cond b (Some row.1) (at text_cmp (map document_of rows) id)) same ∙ ap (λ o. cond (is_eq (key_cmp (key_of c id) row.0)) (Some row.1) o) (at_docs c rows id of.1)

all_pass : (o : Option Entries) (b : Bool) → b ≡ true → option_filter (λ (_ : Entries). b) o ≡ o
all_pass None b e = refl
all_pass (Some d) b e = ap (λ b. cond b (Some d) None) e

-- a collection has what the contents have of it
pub at_own : (c : List ℕ) (rows : Rows) (id : List ℕ) → IsSorted key_cmp rows → at key_cmp (rows_of c rows) (key_of c id) ≡ at key_cmp rows (key_of c id)
at_own c rows id s =
    at-filter key_order (λ row. is_name row.0.collection c) rows (key_of c id) s ∙ all_pass (at key_cmp rows (key_of c id)) (is_name c c) (own_name c)

pub own_sorted : (c : List ℕ) (rows : Rows) → IsSorted key_cmp rows → IsSorted key_cmp (rows_of c rows)
own_sorted c rows s = sorted-filter key_order (λ row. is_name row.0.collection c) rows s

module _ {X Y : Type 0} (f : X → Y) where
  abbrev pub on_values : List (List ℕ × X) → List (List ℕ × Y)
  on_values m = map (λ e. (e.0, f e.1)) m

  at_values : (m : List (List ℕ × X)) (id : List ℕ) → at text_cmp (on_values m) id ≡ option_map f (at text_cmp m id)
  at_values [] id = refl
  at_values (e ∷ m) id =
      elim (is_eq (text_cmp id e.0)) as (λ b. cond b (Some (f e.1)) (at text_cmp (on_values m) id) ≡ option_map f (cond b (Some e.1) (at text_cmp m id))) [
        | true ↦ refl
        | false ↦ at_values m id
      ]

  values_below : (k : List ℕ) (m : List (List ℕ × X)) → AllByRecursion (λ q. text_cmp k q ≡ Less) (keys_of m) → AllByRecursion (λ q. text_cmp k q ≡ Less) (keys_of (on_values m))
  values_below k [] all = tt
  values_below k (e ∷ m) all = (all.0, values_below k m all.1)

  values_sorted : (m : List (List ℕ × X)) → IsSorted text_cmp m → IsSorted text_cmp (on_values m)
  unfolding IsStrictlySortedBy
  values_sorted [] s = tt
  values_sorted (e ∷ m) s = (values_below e.0 m (sorted_head text_cmp _ _ s), values_sorted m (sorted_tail text_cmp _ _ s))

count_map : {X Y : Type 0} (p : Y → Bool) (f : X → Y) (xs : List X) → count_by p (map f xs) ≡ count_by (λ x. p (f x)) xs
count_map p f [] = refl
count_map p f (x ∷ xs) = omega (arith, count-cons p (f x) (map f xs), count-cons (λ x. p (f x)) x xs, count_map p f xs)

row_filtered : (cursor : Cursor) (id : List ℕ) (o : Option Entries) → option_map (row_of cursor) (option_filter (λ d. holds cursor.selector id d) o) ≡ row_at cursor id o
row_filtered cursor id None = refl
row_filtered cursor id (Some d) =
    elim (holds cursor.selector id d) as (λ b. option_map (row_of cursor) (cond b (Some d) None) ≡ (if b then Some (row_of cursor d) else None)) [
      | true ↦ refl
      | false ↦ refl
    ]

module _ (cursor : Cursor) (rows : Rows) (s : IsSorted key_cmp rows) where
  all_sorted : IsSorted text_cmp (map document_of (rows_of cursor.collection rows))
  all_sorted = docs_sorted cursor.collection (rows_of cursor.collection rows) (of_collection cursor.collection rows) (own_sorted cursor.collection rows s)

  at_all : (id : List ℕ) → at text_cmp (map document_of (rows_of cursor.collection rows)) id ≡ at key_cmp rows (key_of cursor.collection id)
  at_all id = at_docs cursor.collection (rows_of cursor.collection rows) id (of_collection cursor.collection rows) ∙ at_own cursor.collection rows id s

  pub window_sorted : IsSorted text_cmp (window_rows cursor rows)
  window_sorted = values_sorted (row_of cursor) (matching cursor rows) (sorted-filter name_order (λ doc. holds cursor.selector doc.0 doc.1) (map document_of (rows_of cursor.collection rows)) all_sorted)

  -- the window has at an id the document that matches
  pub at_window : (id : List ℕ) → at text_cmp (window_rows cursor rows) id ≡ row_at cursor id (at key_cmp rows (key_of cursor.collection id))
  at_window id =
      at_values (row_of cursor) (matching cursor rows) id
      ∙ ap (option_map (row_of cursor)) (at-filter name_order (λ doc. holds cursor.selector doc.0 doc.1) (map document_of (rows_of cursor.collection rows)) id all_sorted ∙ ap (option_filter (λ d. holds cursor.selector id d)) (at_all id))
      ∙ row_filtered cursor id (at key_cmp rows (key_of cursor.collection id))

  -- as many rows of the window stand before a document as documents that match
  same_rank : (id : List ℕ) (doc : Entries) → rows_before cursor.sort (window_rows cursor rows) id doc ≡ rank cursor (matching cursor rows) id doc
  same_rank id doc = count_map (λ (row : List ℕ × Row). is_before cursor.sort row.0 row.1.whole id doc) (λ (d : List ℕ × Entries). (d.0, row_of cursor d.1)) (matching cursor rows)

  abbrev shown_row : ℕ → List ℕ → Row → Option Entries
  shown_row limit id row = if nat_lt (rows_before cursor.sort (window_rows cursor rows) id row.whole) limit then Some row.projected else None

  shown_if : (limit : ℕ) (id : List ℕ) → cursor.limit ≡ Some limit → (o : Option Entries) → option_and_then (shown_row limit id) (row_at cursor id o) ≡ option_and_then (published_of cursor rows id) o
  shown_if limit id e None = refl
  shown_if limit id e (Some d) =
      let shown = Some (entries_of (projected cursor.fields (fields_of d))) in
      let within : nat_lt (rows_before cursor.sort (window_rows cursor rows) id d) limit ≡ is_within cursor.limit (rank cursor (matching cursor rows) id d) =
      ap (λ n. nat_lt n limit) (same_rank id d) ∙ sym (ap (λ l. is_within l (rank cursor (matching cursor rows) id d)) e) in
      elim (holds cursor.selector id d)
      as (λ b. option_and_then (shown_row limit id) (if b then Some (row_of cursor d) else None) ≡ (if b && is_within cursor.limit (rank cursor (matching cursor rows) id d) then shown else None)) [
        | true ↦ ap (λ b. if b then shown else None) within
        | false ↦ refl
      ]

  -- the window shows what the cursor publishes
  pub shown_window : (limit : ℕ) (id : List ℕ) → cursor.limit ≡ Some limit → shown_at cursor.sort limit (window_rows cursor rows) id ≡ seen cursor rows id
  shown_window limit id e = ap (option_and_then (shown_row limit id)) (at_window id) ∙ shown_if limit id e (at key_cmp rows (key_of cursor.collection id))
