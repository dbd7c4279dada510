-- Rows among rows in order.
use Rattle.std.proofs.Common.{◌≡◌, ℕ, zero, suc, ◌+◌, ◌<◌, Bool, true, false, cond, ◌&&◌, List, [], ◌∷◌, ◌++◌, length, get_or, slice_get, Some, take, drop, drop-cons, refl, ap, sym, subst, ◌∙◌, arith}
use Rattle.std.specs.Prelude.{count_by}
use Rattle.std.specs.List.{AllByRecursion, insert, remove}
use Rattle.std.specs.List.Sorted.{IsStrictlySortedBy}
use Rattle.std.specs.declared.cmp.Ordering.TheVariants.{Less, Equal, Greater}
use Rattle.std.specs.Ordering.{is_lt, is_eq, ordering_reverse}
use Rattle.std.specs.Cmp.{IsTotalOrder, tied_itself}
use Rattle.std.proofs.lemmas.Cmp.{on_total, nat_list_cmp_total}
use Rattle.std.proofs.lemmas.List.{take-append-drop}
use Rattle.std.proofs.lemmas.List.Sums.{sum_by-insert, sum_by-remove}
use Rattle.std.proofs.lemmas.Map.Lookups.{exact_bytes}
use Rattle.std.proofs.lemmas.Option.{none-some, same_Some, slice_get_read}
use Rattle.value_model.specs.Val.{Entries, object, fields_of, entries_of}
use Rattle.value_model.specs.ValLaws.{entries_of-fields_of}
use Rattle.value_model.specs.TruthLaws.{both_true, equal_of}
use Rattle.value_model.specs.Order.{text_cmp}
use Rattle.value_model.specs.OrderLaws.{fields_ties, compare_itself}
use Rattle.ejson_value.specs.declared.sort.SortKey.{SortKey}
use Rattle.sort_window.specs.declared.rows.Row.{Row}
use Rattle.sort_window.specs.Sorting.{id_doc_cmp}
use Rattle.sort_window.specs.SortingLaws.{pair_total, tie_ids}
use Rattle.sort_window.specs.Shown.{RowMap}
use Rattle.sort_window.specs.Inside.{row_cmp, stands_before, has_id, is_doc, is_row, AreInOrder, HasOneMore}
use Rattle.sort_window.proofs.Ordered.{count-cons, count_yes, count_none, count_some, sorted_with, sorted_without, split_at, found_place}

pub row_total : (sort : List SortKey) → IsTotalOrder (row_cmp sort)
row_total sort = on_total (λ (r : List ℕ × Row). (r.0, r.1.whole)) (pair_total sort)

pub order_down : (sort : List SortKey) (id : List ℕ) (whole : Entries) (y z : List ℕ × Row) → row_cmp sort y z ≡ Less → id_doc_cmp sort z.0 z.1.whole id whole ≡ Less → id_doc_cmp sort y.0 y.1.whole id whole ≡ Less
order_down sort id whole y z e h = (pair_total sort).trans (y.0, y.1.whole) (z.0, z.1.whole) (id, whole) e h

pub doc_is : (a b : Entries) → is_doc a b ≡ true → a ≡ b
doc_is a b e = sym (entries_of-fields_of a) ∙ ap entries_of (fields_ties (fields_of a) (fields_of b) (equal_of _ e)) ∙ entries_of-fields_of b

pub doc_itself : (a : Entries) → is_doc a a ≡ true
doc_itself a = ap is_eq (compare_itself (object (fields_of a)))

pub row_is : (a b : List ℕ × Row) → is_row a b ≡ true → b ≡ a
row_is a b e =
    let ids = both_true _ _ e in
    let docs = both_true _ _ ids.1 in
    let id : a.0 ≡ b.0 = exact_bytes a.0 b.0 (equal_of _ ids.0) in
    let whole : a.1.whole ≡ b.1.whole = doc_is _ _ docs.0 in
    let projected : a.1.projected ≡ b.1.projected = doc_is _ _ docs.1 in
    sym (λ i. (id i, record { whole = whole i; projected = projected i }))

pub row_itself : (a : List ℕ × Row) → is_row a a ≡ true
row_itself a =
    ap (λ b. b && (is_doc a.1.whole a.1.whole && is_doc a.1.projected a.1.projected)) (ap is_eq (tied_itself nat_list_cmp_total a.0))
    ∙ ap (λ b. b && is_doc a.1.projected a.1.projected) (doc_itself a.1.whole)
    ∙ doc_itself a.1.projected

all_drop : {X : Type 0} (P : X → Type 0) (n : ℕ) (xs : List X) → AllByRecursion P xs → AllByRecursion P (drop n xs)
all_drop P zero xs all = all
all_drop P (suc n) [] all = tt
all_drop P (suc n) (x ∷ xs) all = all_drop P n xs all.1

module _ (sort : List SortKey) where
  after_it : (z held : List ℕ × Row) → is_lt (row_cmp sort z held) ≡ false → has_id held.0 z ≡ false → row_cmp sort held z ≡ Less
  after_it z held not_before other =
      elim (row_cmp sort z held) as (λ r. row_cmp sort z held ≡ r → is_lt r ≡ false → row_cmp sort held z ≡ Less) [
        | Less ↦ λ e h. cc
        | Equal ↦ λ e h.
            let id = tie_ids sort (z.0, z.1.whole) (held.0, held.1.whole) e in
            let same : has_id held.0 z ≡ true = ap (λ k. is_eq (text_cmp k held.0)) id ∙ ap is_eq (tied_itself nat_list_cmp_total held.0) in
            cc
        | Greater ↦ λ e h. (row_total sort).antisymm held z ∙ ap ordering_reverse e
      ] refl not_before

  all_after : (held : List ℕ × Row) (zs : RowMap) → AllByRecursion (λ z. is_lt (row_cmp sort z held) ≡ false) zs → AllByRecursion (λ z. has_id held.0 z ≡ false) zs → AllByRecursion (λ z. row_cmp sort held z ≡ Less) zs
  all_after held [] not_before other = tt
  all_after held (z ∷ zs) not_before other = (after_it z held not_before.0 other.0, all_after held zs not_before.1 other.1)

  -- a row with a new id, put at its place
  pub put_sorted : (rows : RowMap) (held : List ℕ × Row) (n : ℕ) → AreInOrder sort rows → count_by (has_id held.0) rows ≡ 0 → n ≡ count_by (stands_before sort held.0 held.1.whole) rows → AreInOrder sort (insert rows n held)
  put_sorted rows held n s new at =
      let P : ℕ → Type 0 = λ n. AreInOrder sort (insert rows n held) in
      let m = count_by (stands_before sort held.0 held.1.whole) rows in
      let parts = split_at (row_cmp sort) (λ z. row_cmp sort z held) (order_down sort held.0 held.1.whole) rows s in
      let others = all_drop (λ z. has_id held.0 z ≡ false) m rows (count_none (has_id held.0) rows new) in
      subst P (sym at) (sorted_with (row_cmp sort) (take m rows) (drop m rows) held (subst (IsStrictlySortedBy (row_cmp sort)) (sym (take-append-drop m rows)) s) parts.0 (all_after held (drop m rows) parts.1 others))

  -- where a row of the list stands
  pub row_place : (rows : RowMap) (held : List ℕ × Row) → AreInOrder sort rows → 0 < count_by (is_row held) rows → let n = count_by (stands_before sort held.0 held.1.whole) rows in (n < length rows) × ((d : List ℕ × Row) → get_or rows n d ≡ held)
  row_place rows held s there =
      let some = count_some (is_row held) rows there in
      found_place (row_cmp sort) (row_total sort) held rows some.0 s some.1 (λ d. row_is held _ (some.2 d))

  pub take_sorted : (rows : RowMap) (n : ℕ) → AreInOrder sort rows → n < length rows → AreInOrder sort (remove rows n)
  take_sorted [] n s within = absurd (omega arith)
  take_sorted (row ∷ rows) n s within =
      let whole = sym (take-append-drop n (row ∷ rows)) ∙ ap (λ rest. take n (row ∷ rows) ++ rest) (drop-cons (row ∷ rows) n row within) in
      sorted_without (row_cmp sort) (take n (row ∷ rows)) (drop (suc n) (row ∷ rows)) (get_or (row ∷ rows) n row) (subst (IsStrictlySortedBy (row_cmp sort)) whole s)

pub count_inserted : (rows : RowMap) (n : ℕ) (held : List ℕ × Row) → HasOneMore rows held (insert rows n held)
count_inserted rows n held test =
    let here : count_by test (insert rows n held) ≡ count_by test rows + cond (test held) 1 0 = sum_by-insert (λ z. cond (test z) 1 0) rows n held in
    omega (arith, here, count-cons test held rows)

pub count_removed : (rows : RowMap) (n : ℕ) (held : List ℕ × Row) → n < length rows → ((d : List ℕ × Row) → get_or rows n d ≡ held) → HasOneMore (remove rows n) held rows
count_removed rows n held within is test =
    let one = λ (z : List ℕ × Row). cond (test z) 1 0 in
    let here : count_by test (remove rows n) + cond (test held) 1 0 ≡ count_by test rows = ap (λ z. count_by test (remove rows n) + one z) (sym (is held)) ∙ sum_by-remove one rows n held within in
    omega (arith, here, count-cons test held (remove rows n))

module _ (sort : List SortKey) where
  -- a row of the list is what a look at its place finds
  pub stands_there : (rows : RowMap) (held : List ℕ × Row) → AreInOrder sort rows → 0 < count_by (is_row held) rows → slice_get rows (count_by (stands_before sort held.0 held.1.whole) rows) ≡ Some held
  stands_there rows held s there =
      let here = row_place sort rows held s there in
      slice_get_read rows (length rows) (count_by (stands_before sort held.0 held.1.whole) rows) held refl here.0 (sym (here.1 held))

  none_counted : (rows : RowMap) (held : List ℕ × Row) (n : ℕ) → AreInOrder sort rows → n ≡ count_by (is_row held) rows → (slice_get rows (count_by (stands_before sort held.0 held.1.whole) rows) ≡ Some held → ⊥) → n ≡ 0
  none_counted rows held zero s e other = refl
  none_counted rows held (suc n) s e other = absurd (other (stands_there rows held s (omega (arith, e))))

  -- where the look finds another one, the row isn't there
  pub not_there : (rows : RowMap) (held : List ℕ × Row) → AreInOrder sort rows → (slice_get rows (count_by (stands_before sort held.0 held.1.whole) rows) ≡ Some held → ⊥) → count_by (is_row held) rows ≡ 0
  not_there rows held s other = none_counted rows held (count_by (is_row held) rows) s refl other

-- a row at some place that passes a test is counted
pub counted_at : (test : List ℕ × Row → Bool) (rows : RowMap) (n : ℕ) (other : List ℕ × Row) → slice_get rows n ≡ Some other → test other ≡ true → 0 < count_by test rows
counted_at test [] n other e t = absurd (none-some other e)
counted_at test (row ∷ rows) zero other e t = let yes = count_yes test row rows (ap test (same_Some row other e) ∙ t) in omega (arith, yes)
counted_at test (row ∷ rows) (suc n) other e t = let more = counted_at test rows n other e t in omega (arith, count-cons test row rows, more)

pub id_itself : (row : List ℕ × Row) → has_id row.0 row ≡ true
id_itself row = ap is_eq (tied_itself nat_list_cmp_total row.0)

pub never_both : (b : Bool) → b ≡ true → b ≡ false → ⊥
never_both true t f = cc
never_both false t f = cc
