-- The keys of one collection stand between two keys: no text stands between a text and the same with a zero byte at its end.
use Rattle.std.proofs.Common.{◌≡◌, ℕ, zero, suc, Bool, true, false, cond, not, ◌&&◌, ◌==◌, List, [], ◌∷◌, ◌++◌, refl, ap, ◌∙◌, arith}
use Rattle.std.specs.Prelude.{filter}
use Rattle.std.specs.declared.cmp.Ordering.{Ordering}
use Rattle.std.specs.declared.cmp.Ordering.TheVariants.{Less, Equal, Greater}
use Rattle.std.specs.declared.ops.Bound.TheVariants.{Included, Excluded}
use Rattle.std.specs.Ordering.{nat_cmp, ordering_then, is_le, is_eq, is_gt}
use Rattle.std.specs.BTreeMap.Range.{range_contains, entries_between}
use Rattle.std.specs.Cmp.{nat_cmp_total, tied_itself, eq_by_cmp_equiv}
use Rattle.std.proofs.lemmas.Bool.{lt-ltb}
use Rattle.std.proofs.lemmas.Cmp.{nat_list_cmp_total}
use Rattle.std.proofs.lemmas.Map.Text.{is_eq-slice_cmp}
use Rattle.map_model.specs.Maps.{IsSorted}
use Rattle.map_model.specs.MapLaws.{sorted-filter}
use Rattle.value_model.specs.Order.{text_cmp}
use Rattle.value_model.specs.Val.{Val}
use Rattle.value_model.specs.Size.{is_name}
use Rattle.ejson_value.specs.declared.key.Key.{Key}
use Rattle.ejson_value.specs.Key.{key_cmp, key_order}
use Rattle.ejson_value.specs.Rows.{Rows, rows_of}

abbrev pub first_key : List ℕ → Key
first_key collection = record { collection = collection; id = [] }

abbrev pub key_behind : List ℕ → Key
key_behind collection = record { collection = collection ++ 0 ∷ []; id = [] }

-- the empty text is the least
nothing_le : (s : List ℕ) → is_le (text_cmp [] s) ≡ true
nothing_le [] = refl
nothing_le (b ∷ s) = refl

then_nothing : (o : Ordering) (s : List ℕ) → is_le (ordering_then o (text_cmp [] s)) ≡ is_le o
then_nothing Less s = refl
then_nothing Equal s = nothing_le s
then_nothing Greater s = refl

-- and zero the least byte
zero_le : (b : ℕ) (o : Ordering) → is_le o ≡ true → is_le (ordering_then (nat_cmp 0 b) o) ≡ true
zero_le zero o e = e
zero_le (suc b) o e = ap (λ t. is_le (ordering_then (cond t Less (cond (0 == suc b) Equal Greater)) o)) (lt-ltb 0 (suc b) (omega arith))

-- what is not behind the text, but behind the same with a zero byte, is the text
between_texts : (c t : List ℕ) → (is_le (text_cmp c t) && not (is_le (text_cmp (c ++ 0 ∷ []) t))) ≡ is_eq (text_cmp c t)
between_texts [] [] = refl
between_texts [] (b ∷ t) = ap not (zero_le b (text_cmp [] t) (nothing_le t))
between_texts (a ∷ c) [] = refl
between_texts (a ∷ c) (b ∷ t) =
    elim (nat_cmp a b)
    as (λ o. (is_le (ordering_then o (text_cmp c t)) && not (is_le (ordering_then o (text_cmp (c ++ 0 ∷ []) t)))) ≡ is_eq (ordering_then o (text_cmp c t)))
    [ Less ↦ refl | Equal ↦ between_texts c t | Greater ↦ refl ]

before_behind : (c : List ℕ) → text_cmp c (c ++ 0 ∷ []) ≡ Less
before_behind [] = refl
before_behind (a ∷ c) = ap (λ o. ordering_then o (text_cmp c (c ++ 0 ∷ []))) (tied_itself nat_cmp_total a) ∙ before_behind c

pub forward : (c : List ℕ) → is_gt (key_cmp (first_key c) (key_behind c)) ≡ false
forward c = ap (λ o. is_gt (ordering_then o (text_cmp [] []))) (before_behind c)

pub one_collection : (c : List ℕ) (q : Key) → range_contains key_cmp (Included (first_key c)) (Excluded (key_behind c)) q ≡ is_name q.collection c
one_collection c q =
    ap (λ b. b && not (is_le (key_cmp (key_behind c) q))) (then_nothing (text_cmp c q.collection) q.id)
    ∙ (ap (λ b. is_le (text_cmp c q.collection) && not b) (then_nothing (text_cmp (c ++ 0 ∷ []) q.collection) q.id)
    ∙ (between_texts c q.collection
    ∙ ((eq_by_cmp_equiv nat_list_cmp_total).symm c q.collection
    ∙ is_eq-slice_cmp q.collection c)))

pub between_is : (c : List ℕ) (rows : Rows) → entries_between key_cmp (Included (first_key c)) (Excluded (key_behind c)) rows ≡ rows_of c rows
between_is c rows = ap (λ (p : (Key × List (List ℕ × Val)) → Bool). filter p rows) (λ i row. one_collection c row.0 i)

pub sorted-rows_of : (c : List ℕ) (rows : Rows) → IsSorted key_cmp rows → IsSorted key_cmp (rows_of c rows)
sorted-rows_of c rows s = sorted-filter key_order (λ row. is_name row.0.collection c) rows s
