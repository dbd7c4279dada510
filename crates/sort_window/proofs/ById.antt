-- Entries by key: what stands at the place of a key.
use Rattle.std.proofs.Common.{◌≡◌, ℕ, zero, suc, ◌<◌, true, false, cond, List, [], ◌∷◌, length, Option, None, Some, slice_get, refl, ap, sym, ◌∙◌, arith}
use Rattle.std.specs.Prelude.{count_by}
use Rattle.std.specs.List.{AllByRecursion, insert, remove}
use Rattle.std.specs.List.Sorted.{IsStrictlySortedBy}
use Rattle.std.specs.declared.cmp.Ordering.{Ordering}
use Rattle.std.specs.declared.cmp.Ordering.TheVariants.{Less, Equal, Greater}
use Rattle.std.specs.Ordering.{is_lt, is_eq, match_ordering, ordering_reverse}
use Rattle.std.specs.Map.{keys_of, remove_entry}
use Rattle.std.specs.BTreeMap.{is_at, insert_entry}
use Rattle.std.proofs.lemmas.Map.Keys.{sorted_head, sorted_tail}
use Rattle.std.proofs.lemmas.Option.{none-some}
use Rattle.map_model.specs.Maps.{at, IsSorted, IsKeyOrder}
use Rattle.sort_window.proofs.Ordered.{count_yes, none_before}
use Rattle.sort_window.proofs.Counting.{none_below, less_all}

module _ {K : Type 0} {R : K → K → Ordering} (o : IsKeyOrder R) where
  flipped : (k q : K) (r : Ordering) → R q k ≡ r → R k q ≡ ordering_reverse r
  flipped k q r e = o.total.antisymm k q ∙ ap ordering_reverse e

within : {A : Type 0} (xs : List A) (n : ℕ) → (slice_get xs n ≡ None → ⊥) → n < length xs
within [] n some = absurd (some refl)
within (x ∷ xs) zero some = omega arith
within (x ∷ xs) (suc n) some = omega (arith, within xs n some)

module _ {K X : Type 0} {R : K → K → Ordering} (o : IsKeyOrder R) where
  entries_after : (k : K) (m : List (K × X)) → AllByRecursion (λ q. R k q ≡ Less) (keys_of m) → AllByRecursion (λ (z : K × X). R k z.0 ≡ Less) m
  entries_after k [] h = tt
  entries_after k (e ∷ m) h = (h.0, entries_after k m h.1)

  -- entries by rising key, as a list in order
  pub sorted_entries : (m : List (K × X)) → IsSorted R m → IsStrictlySortedBy (λ (a b : K × X). R a.0 b.0) m
  unfolding IsStrictlySortedBy
  sorted_entries [] s = tt
  sorted_entries (e ∷ m) s = (entries_after e.0 m s.0, sorted_entries m s.1)

  pub down : (k : K) (y z : K × X) → R y.0 z.0 ≡ Less → R z.0 k ≡ Less → R y.0 k ≡ Less
  down k y z e h = o.total.trans y.0 z.0 k e h

  module _ (k : K) where
    no_more : (e : K × X) (m : List (K × X)) (r : Ordering) → IsSorted R (e ∷ m) → R e.0 k ≡ r → is_lt r ≡ false → count_by (λ (z : K × X). is_lt (R z.0 k)) (e ∷ m) ≡ 0
    no_more e m r s t not_less = none_before (λ (a b : K × X). R a.0 b.0) (λ z. R z.0 k) (down k) e m (sorted_entries (e ∷ m) s) (ap is_lt t ∙ not_less)

    one_more : (e : K × X) (m : List (K × X)) → R e.0 k ≡ Less → count_by (λ (z : K × X). is_lt (R z.0 k)) (e ∷ m) ≡ suc (count_by (λ (z : K × X). is_lt (R z.0 k)) m)
    one_more e m t = count_yes (λ (z : K × X). is_lt (R z.0 k)) e m (ap is_lt t)

    none_at : (e : K × X) (m : List (K × X)) → IsSorted R (e ∷ m) → R k e.0 ≡ Less → at R (e ∷ m) k ≡ None
    none_at e m s t = ap (λ r. cond (is_eq r) (Some e.1) (at R m k)) t ∙ none_below o (λ (_ : K × X). true) k m (less_all {X = X} o (λ (_ : K × X). true) k e.0 (keys_of m) t (sorted_head R _ _ s))

    -- the entry at the key's place, if it is of that key
    abbrev pub entry_if : Option (K × X) → Option X
    entry_if None = None
    entry_if (Some e) = cond (is_eq (R e.0 k)) (Some e.1) None

    pub find_at : (m : List (K × X)) → IsSorted R m → at R m k ≡ entry_if (slice_get m (count_by (λ (z : K × X). is_lt (R z.0 k)) m))
    find_at [] s = refl
    find_at (e ∷ m) s =
        let place = λ (n : ℕ). entry_if (slice_get (e ∷ m) n) in
        let step = λ (r : Ordering). cond (is_eq r) (Some e.1) (at R m k) in
        elim (R e.0 k) as (λ r. R e.0 k ≡ r → at R (e ∷ m) k ≡ place (count_by (λ (z : K × X). is_lt (R z.0 k)) (e ∷ m))) [
          | Less ↦ λ t. ap step (flipped o k e.0 Less t) ∙ find_at m (sorted_tail R _ _ s) ∙ sym (ap place (one_more e m t))
          | Equal ↦ λ t. ap step (flipped o k e.0 Equal t) ∙ sym (ap (λ r. cond (is_eq r) (Some e.1) None) t) ∙ sym (ap place (no_more e m Equal s t refl))
          | Greater ↦ λ t. none_at e m s (flipped o k e.0 Greater t) ∙ sym (ap (λ r. cond (is_eq r) (Some e.1) None) t) ∙ sym (ap place (no_more e m Greater s t refl))
        ] refl

    -- a new key goes to its place
    pub insert_is : (m : List (K × X)) (v : X) → IsSorted R m → at R m k ≡ None → insert m (count_by (λ (z : K × X). is_lt (R z.0 k)) m) (k, v) ≡ insert_entry R m k v
    insert_is [] v s none = refl
    insert_is (e ∷ m) v s none =
        let place = λ (n : ℕ). insert (e ∷ m) n (k, v) in
        let step = λ (r : Ordering). match_ordering r ((k, v) ∷ e ∷ m) ((e.0, v) ∷ m) (e ∷ insert_entry R m k v) in
        let look = λ (r : Ordering). cond (is_eq r) (Some e.1) (at R m k) in
        elim (R e.0 k) as (λ r. R e.0 k ≡ r → place (count_by (λ (z : K × X). is_lt (R z.0 k)) (e ∷ m)) ≡ insert_entry R (e ∷ m) k v) [
          | Less ↦ λ t.
              let rest = insert_is m v (sorted_tail R _ _ s) (sym (ap look (flipped o k e.0 Less t)) ∙ none) in
              ap place (one_more e m t) ∙ ap (λ more. e ∷ more) rest ∙ sym (ap step (flipped o k e.0 Less t))
          | Equal ↦ λ t. absurd (none-some e.1 (sym none ∙ ap look (flipped o k e.0 Equal t)))
          | Greater ↦ λ t. ap place (no_more e m Greater s t refl) ∙ sym (ap step (flipped o k e.0 Greater t))
        ] refl

    -- the entry of a key is taken from its place
    pub remove_is : (m : List (K × X)) (v : X) → IsSorted R m → at R m k ≡ Some v → remove m (count_by (λ (z : K × X). is_lt (R z.0 k)) m) ≡ remove_entry (is_at (R k)) m
    remove_is [] v s some = absurd (none-some v some)
    remove_is (e ∷ m) v s some =
        let place = λ (n : ℕ). remove (e ∷ m) n in
        let step = λ (r : Ordering). cond (is_eq r) m (e ∷ remove_entry (is_at (R k)) m) in
        let look = λ (r : Ordering). cond (is_eq r) (Some e.1) (at R m k) in
        elim (R e.0 k) as (λ r. R e.0 k ≡ r → place (count_by (λ (z : K × X). is_lt (R z.0 k)) (e ∷ m)) ≡ remove_entry (is_at (R k)) (e ∷ m)) [
          | Less ↦ λ t.
              let rest = remove_is m v (sorted_tail R _ _ s) (sym (ap look (flipped o k e.0 Less t)) ∙ some) in
              ap place (one_more e m t) ∙ ap (λ more. e ∷ more) rest ∙ sym (ap step (flipped o k e.0 Less t))
          | Equal ↦ λ t. ap place (no_more e m Equal s t refl) ∙ sym (ap step (flipped o k e.0 Equal t))
          | Greater ↦ λ t. absurd (none-some v (sym (none_at e m s (flipped o k e.0 Greater t)) ∙ some))
        ] refl

    -- the place of an entry that stands there
    pub place_within : (m : List (K × X)) (v : X) → IsSorted R m → at R m k ≡ Some v → count_by (λ (z : K × X). is_lt (R z.0 k)) m < length m
    place_within m v s some =
        let n = count_by (λ (z : K × X). is_lt (R z.0 k)) m in
        within m n (λ none. none-some v (sym (ap entry_if none) ∙ sym (find_at m s) ∙ some))
