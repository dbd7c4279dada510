-- Laws of the order of documents: it is total, and only documents of one id tie.
use Rattle.std.specs.Prelude.{◌≡◌, ℕ, Bool, true, false, List, [], ◌∷◌, refl, not, if◌then◌else◌}
use Rattle.std.proofs.Common.{ap}
use Rattle.std.specs.declared.cmp.Ordering.{Ordering}
use Rattle.std.specs.declared.cmp.Ordering.TheVariants.{Less, Equal, Greater}
use Rattle.std.specs.Ordering.{ordering_reverse, on, is_lt}
use Rattle.std.specs.Cmp.{IsTotalOrder}
use Rattle.std.proofs.lemmas.Cmp.{on_total, then_total, back_total, nat_list_cmp_total}
use Rattle.std.proofs.lemmas.Map.Lookups.{exact_bytes}
use Rattle.value_model.specs.Val.{Entries}
use Rattle.value_model.specs.Order.{text_cmp, compare}
use Rattle.value_model.specs.OrderLaws.{compare_total, then_ties}
use Rattle.ejson_value.specs.declared.sort.SortKey.{SortKey}
use Rattle.sort_window.specs.Sorting.{sort_value, key_cmp, docs_cmp, id_doc_cmp, is_before}

key_total : (key : SortKey) → IsTotalOrder (key_cmp key)
key_total key =
    let up : IsTotalOrder (on (sort_value key.path) compare) = on_total (sort_value key.path) compare_total in
    elim key.descending as
    (λ b. IsTotalOrder (λ (x y : Entries). if b then compare (sort_value key.path y) (sort_value key.path x) else compare (sort_value key.path x)
    (sort_value key.path y))) [
      | true ↦ back_total up
      | false ↦ up
    ]

pub docs_total : (sort : List SortKey) → IsTotalOrder (docs_cmp sort)
docs_total [] = record { antisymm = λ x y. refl; trans = λ x y z e f. e; congr = λ x y z e. refl }
docs_total (key ∷ keys) = then_total (key_total key) (docs_total keys)

-- the order of documents with their ids
abbrev pub pair_cmp : List SortKey → List ℕ × Entries → List ℕ × Entries → Ordering
pair_cmp sort a b = id_doc_cmp sort a.0 a.1 b.0 b.1

pub pair_total : (sort : List SortKey) → IsTotalOrder (pair_cmp sort)
pair_total sort = then_total (on_total (λ (a : List ℕ × Entries). a.1) (docs_total sort)) (on_total (λ (a : List ℕ × Entries). a.0) nat_list_cmp_total)

pub tie_ids : (sort : List SortKey) (a b : List ℕ × Entries) → pair_cmp sort a b ≡ Equal → a.0 ≡ b.0
tie_ids sort a b e = exact_bytes a.0 b.0 (then_ties (docs_cmp sort a.1 b.1) (text_cmp a.0 b.0) e).1

-- the order is strict and total on documents of distinct ids
pub record IsStrictTotal (before : List ℕ → Entries → List ℕ → Entries → Bool) : Type 0 where
  pub irreflexive : (id : List ℕ) (a : Entries) → before id a id a ≡ false
  pub transitive : (i j k : List ℕ) (a b c : Entries) → before i a j b ≡ true → before j b k c ≡ true → before i a k c ≡ true
  pub one_first : (i j : List ℕ) (a b : Entries) → (i ≡ j → ⊥) → before i a j b ≡ not (before j b i a)

lt_is : (o : Ordering) → is_lt o ≡ true → o ≡ Less
lt_is Less e = refl
lt_is Equal e = cc
lt_is Greater e = cc

flipped : (o p : Ordering) → o ≡ ordering_reverse p → (o ≡ Equal → ⊥) → is_lt o ≡ not (is_lt p)
flipped Less Less e n = cc
flipped Less Equal e n = cc
flipped Less Greater e n = refl
flipped Equal p e n = absurd (n refl)
flipped Greater Less e n = refl
flipped Greater Equal e n = cc
flipped Greater Greater e n = cc

self_not_less : (o : Ordering) → o ≡ ordering_reverse o → is_lt o ≡ false
self_not_less Less e = cc
self_not_less Equal e = refl
self_not_less Greater e = refl

pub before_strict : (sort : List SortKey) → IsStrictTotal (is_before sort)
before_strict sort =
    let o = pair_total sort in
    record {
      irreflexive = λ id a. self_not_less _ (o.antisymm (id, a) (id, a));
      transitive = λ i j k a b c e f. ap is_lt (o.trans (i, a) (j, b) (k, c) (lt_is _ e) (lt_is _ f));
      one_first = λ i j a b distinct. flipped _ _ (o.antisymm (i, a) (j, b)) (λ tie. distinct (tie_ids sort (i, a) (j, b) tie));
    }
