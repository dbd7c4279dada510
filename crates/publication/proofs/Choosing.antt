-- Documents in order, and how many of them stand before another one.
use Rattle.std.specs.Prelude.{count_by, filter, map, if◌then◌else◌}
use Rattle.std.specs.List.{AllByRecursion}
use Rattle.std.specs.List.Sorted.{IsPartitionedBy, IsPermutation}
use Rattle.std.specs.Map.{keys_of}
use Rattle.std.specs.declared.cmp.Ordering.{Ordering}
use Rattle.std.specs.declared.cmp.Ordering.TheVariants.{Less, Equal, Greater}
use Rattle.std.specs.Ordering.{eq_by_cmp, is_lt, ordering_reverse}
use Rattle.std.specs.Cmp.{IsTotalOrder}
use Rattle.std.proofs.Common.{◌≡◌, ℕ, zero, suc, ◌+◌, ◌≤◌, ◌<◌, Bool, true, false, cond, ◌&&◌, List, [], ◌∷◌, length, get_or, None, Some, refl, ap, sym, ◌∙◌, arith}
use Rattle.std.proofs.lemmas.List.Sorted.{sum_by-IsPermutation}
use Rattle.std.proofs.lemmas.Slice.Eq.{bytes_eq-Decides}
use Rattle.std.proofs.lemmas.Map.Keys.{sorted_tail}
use Rattle.map_model.specs.Maps.{at, IsSorted}
use Rattle.map_model.specs.MapLaws.{at-tail, key_is, eq_by_cmp-self}
use Rattle.value_model.specs.Val.{Entries, fields_of, entries_of}
use Rattle.value_model.specs.Size.{is_name}
use Rattle.ejson_value.specs.declared.key.Key.{Key}
use Rattle.ejson_value.specs.declared.sort.SortKey.{SortKey}
use Rattle.ejson_value.specs.Key.{key_cmp, key_order, key_of}
use Rattle.ejson_value.specs.Rows.{Rows, rows_of}
use Rattle.selector_match.specs.Holds.{holds}
use Rattle.sort_window.specs.SortingLaws.{pair_total}
use Rattle.sort_window.proofs.Ordered.{less_is, count-cons}
use Rattle.publication.specs.declared.cursor.Cursor.{Cursor}
use Rattle.publication.specs.Projected.{projected}
use Rattle.publication.specs.Published.{Documents, document_of, matching, rank, is_within, published_of}
use Rattle.publication.specs.Putting.{published_among}
use Rattle.publication.specs.Ordered.{if_held, goes_before, IsInOrder, IsChoice}

-- ---- documents in order

-- what stands before r stands before what r doesn't go before
pub before_down : {X : Type 0} {cmp : X → X → Ordering} → IsTotalOrder cmp → (q r t : X) → is_lt (cmp r q) ≡ false → is_lt (cmp r t) ≡ true → is_lt (cmp q t) ≡ true
before_down {cmp = cmp} o q r t h e =
    elim (cmp r q) as (λ p. cmp r q ≡ p → is_lt p ≡ false → is_lt (cmp q t) ≡ true) [
      | Less ↦ λ is no. cc
      | Equal ↦ λ is no. ap is_lt (sym (o.congr r q t is)) ∙ e
      | Greater ↦ λ is no. ap is_lt (o.trans q r t (o.antisymm q r ∙ ap ordering_reverse is) (less_is _ e))
    ] refl h

all_from : {X Y : Type 0} (test : Y → Bool) (f : X → Y) (xs : List X) → ((k : ℕ) (d : X) → k < length xs → test (f (get_or xs k d)) ≡ false) → AllByRecursion (λ y. test y ≡ false) (map f xs)
all_from test f [] h = tt
all_from test f (x ∷ xs) h = (h 0 x (omega arith), all_from test f xs (λ k d below. h (suc k) d (omega (arith, below))))

all_at : {X Y : Type 0} (test : Y → Bool) (f : X → Y) (xs : List X) (k : ℕ) (d : X) → AllByRecursion (λ y. test y ≡ false) (map f xs) → k < length xs → test (f (get_or xs k d)) ≡ false
all_at test f [] k d all below = absurd (omega (arith, below))
all_at test f (x ∷ xs) zero d all below = all.0
all_at test f (x ∷ xs) (suc k) d all below = all_at test f xs k d all.1 (omega (arith, below))

module _ {X : Type 0} (sort : List SortKey) (f : X → List ℕ × Entries) where
  pub order_from : (xs : List X) → ((i j : ℕ) (d : X) → i ≤ j → j < length xs → goes_before sort (f (get_or xs j d)) (f (get_or xs i d)) ≡ false) → IsInOrder sort (map f xs)
  order_from [] h = tt
  order_from (x ∷ xs) h = (
    all_from (λ y. goes_before sort y (f x)) f xs (λ k d below. h 0 (suc k) d (omega arith) (omega (arith, below))),
    order_from xs (λ i j d within below. h (suc i) (suc j) d (omega (arith, within)) (omega (arith, below))),
  )

  -- those that stand before another document are in front
  pub front_before : (id : List ℕ) (doc : Entries) (xs : List X) → IsInOrder sort (map f xs) → IsPartitionedBy (λ x. goes_before sort (f x) (id, doc)) xs
  front_before id doc [] up i j d within below is = absurd (omega (arith, below))
  front_before id doc (x ∷ xs) up zero zero d within below is = is
  front_before id doc (x ∷ xs) up zero (suc j) d within below is =
      before_down (pair_total sort) (f x) (f (get_or xs j d)) (id, doc) (all_at (λ y. goes_before sort y (f x)) f xs j d up.0 (omega (arith, below))) is
  front_before id doc (x ∷ xs) up (suc i) zero d within below is = absurd (omega (arith, within))
  front_before id doc (x ∷ xs) up (suc i) (suc j) d within below is = front_before id doc xs up.1 i j d (omega (arith, within)) (omega (arith, below)) is

-- ---- how many pass a test

pub count_mapped : {X Y : Type 0} (test : Y → Bool) (f : X → Y) (xs : List X) → count_by test (map f xs) ≡ count_by (λ x. test (f x)) xs
count_mapped test f [] = refl
count_mapped test f (x ∷ xs) = count-cons test (f x) (map f xs) ∙ (ap (λ n. cond (test (f x)) 1 0 + n) (count_mapped test f xs) ∙ sym (count-cons (λ y. test (f y)) x xs))

pub count_moved : {X Y : Type 0} (test : Y → Bool) (f : X → Y) (xs ys : List X) → IsPermutation xs ys → count_by test (map f ys) ≡ count_by test (map f xs)
count_moved test f xs ys same = count_mapped test f ys ∙ (sum_by-IsPermutation (λ x. cond (test (f x)) 1 0) xs ys same ∙ sym (count_mapped test f xs))

-- the order of two values, from whether one comes before the other
pub order_is : (o p : Ordering) → o ≡ ordering_reverse p → is_lt o ≡ false → is_lt p ≡ false → o ≡ Equal
order_is Less p e n m = cc
order_is Equal p e n m = refl
order_is Greater Less e n m = cc
order_is Greater Equal e n m = cc
order_is Greater Greater e n m = cc

pub greater_is : (o p : Ordering) → o ≡ ordering_reverse p → is_lt p ≡ true → o ≡ Greater
greater_is o Less e h = e
greater_is o Equal e h = cc
greater_is o Greater e h = cc

-- ---- what is published

pub same_published : (cursor : Cursor) (rows : Rows) (docs : Documents) →
    ((id : List ℕ) (doc : Entries) → is_within cursor.limit (rank cursor docs id doc) ≡ is_within cursor.limit (rank cursor (matching cursor rows) id doc)) →
    published_among cursor docs ≡ published_of cursor rows
same_published cursor rows docs same = λ i id doc. if holds cursor.selector id doc && same id doc i then Some (entries_of (projected cursor.fields (fields_of doc))) else None

-- without a limit none need be looked at
pub no_limit : (cursor : Cursor) (rows : Rows) → cursor.limit ≡ None → IsChoice cursor rows []
no_limit cursor rows e = record {
  order = tt;
  same = λ id doc. ap (λ l. is_within l (rank cursor [] id doc)) e ∙ sym (ap (λ l. is_within l (rank cursor (matching cursor rows) id doc)) e);
}

-- where the selector holds of documents of one id alone, no other ones are published
pub only_held : (cursor : Cursor) (rows : Rows) (id : List ℕ) → ((i : List ℕ) (doc : Entries) → holds cursor.selector i doc ≡ true → i ≡ id) →
    (i : List ℕ) (doc : Entries) → (i ≡ id → ⊥) → published_of cursor rows i doc ≡ None
only_held cursor rows id only i doc other =
    elim (holds cursor.selector i doc)
    as (λ b. holds cursor.selector i doc ≡ b → (if b && is_within cursor.limit (rank cursor (matching cursor rows) i doc) then Some (entries_of (projected cursor.fields (fields_of doc))) else None) ≡ None)
    [ true ↦ λ e. absurd (other (only i doc e)) | false ↦ λ e. refl ] refl

-- ---- where the selector names an id

named : (a b : List ℕ) → is_name a b ≡ true → a ≡ b
named a b e = (bytes_eq-Decides a b).0 e

own_name : (a : List ℕ) → is_name a a ≡ true
own_name a = (bytes_eq-Decides a a).1 refl

module _ (cursor : Cursor) (id : List ℕ) (only : (i : List ℕ) (doc : Entries) → holds cursor.selector i doc ≡ true → i ≡ id) where
  abbrev test : List ℕ × Entries → Bool
  test doc = holds cursor.selector doc.0 doc.1

  -- a row that isn't at the key doesn't match
  other_row : (row : Key × Entries) (rows : Rows) → eq_by_cmp key_cmp (key_of cursor.collection id) row.0 ≡ false → matching cursor (row ∷ rows) ≡ matching cursor rows
  other_row row rows apart =
      let rest = rows_of cursor.collection rows in
      let behind = filter test (map document_of rest) in
      elim (is_name row.0.collection cursor.collection) as (λ b. is_name row.0.collection cursor.collection ≡ b → filter test (map document_of (cond b (row ∷ rest) rest)) ≡ behind) [
        | true ↦ λ e.
            elim (holds cursor.selector row.0.id row.1) as (λ h. holds cursor.selector row.0.id row.1 ≡ h → cond h (document_of row ∷ behind) behind ≡ behind) [
              | true ↦ λ f.
                  let ids : id ≡ row.0.id = sym (only row.0.id row.1 f) in
                  let collections : cursor.collection ≡ row.0.collection = sym (named row.0.collection cursor.collection e) in
                  let is : eq_by_cmp key_cmp (key_of cursor.collection id) row.0 ≡ true =
                  ap (λ i. eq_by_cmp key_cmp (key_of cursor.collection i) row.0) ids ∙ (ap (λ n. eq_by_cmp key_cmp (key_of n row.0.id) row.0) collections ∙ eq_by_cmp-self key_order row.0) in
                  absurd (cc (sym apart ∙ is))
              | false ↦ λ f. refl
            ] refl
        | false ↦ λ e. refl
      ] refl

  pub named_matching : (rows : Rows) → IsSorted key_cmp rows → matching cursor rows ≡ if_held cursor id (at key_cmp rows (key_of cursor.collection id))
  named_matching [] s = refl
  named_matching (row ∷ rows) s =
      let wanted = key_of cursor.collection id in
      let rest = named_matching rows (sorted_tail key_cmp row.0 (keys_of rows) s) in
      let own_rows = rows_of cursor.collection rows in
      elim (eq_by_cmp key_cmp wanted row.0)
      as (λ b. eq_by_cmp key_cmp wanted row.0 ≡ b → matching cursor (row ∷ rows) ≡ if_held cursor id (cond b (Some row.1) (at key_cmp rows wanted))) [
        | true ↦ λ e.
            let is : wanted ≡ row.0 = key_is key_order wanted row.0 e in
            let none : matching cursor rows ≡ [] = rest ∙ ap (λ o. if_held cursor id o) (at-tail key_order row rows wanted s e) in
            let own : is_name row.0.collection cursor.collection ≡ true = ap (λ n. is_name row.0.collection n) (ap (λ (k : Key). k.collection) is) ∙ own_name row.0.collection in
            ap (λ b. filter test (map document_of (cond b (row ∷ own_rows) own_rows))) own
            ∙ (ap (λ (m : Documents). cond (holds cursor.selector row.0.id row.1) (document_of row ∷ m) m) none ∙ sym (ap (λ (k : Key). if_held cursor k.id (Some row.1)) is))
        | false ↦ λ e. other_row row rows e ∙ rest
      ] refl
