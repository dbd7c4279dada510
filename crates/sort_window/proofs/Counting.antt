-- How many rows pass a test, before and after changes.
use Rattle.std.proofs.Common.{◌≡◌, ℕ, ◌+◌, Bool, true, false, cond, List, [], ◌∷◌, Option, None, Some, refl, ap, sym, ◌∙◌, arith, add-zero}
use Rattle.std.specs.Prelude.{count_by}
use Rattle.std.specs.List.{AllByRecursion}
use Rattle.std.specs.declared.cmp.Ordering.{Ordering}
use Rattle.std.specs.declared.cmp.Ordering.TheVariants.{Less, Equal, Greater}
use Rattle.std.specs.Ordering.{is_eq, match_ordering}
use Rattle.std.specs.Map.{keys_of, remove_entry}
use Rattle.std.specs.BTreeMap.{is_at, insert_entry}
use Rattle.std.proofs.lemmas.Map.Keys.{sorted_head, sorted_tail}
use Rattle.map_model.specs.Maps.{at, set, IsSorted, IsKeyOrder}
use Rattle.sort_window.proofs.Ordered.{count-cons}

abbrev pub one : Bool → ℕ
one b = cond b 1 0

module _ {K X : Type 0} {R : K → K → Ordering} (o : IsKeyOrder R) (p : K × X → Bool) where
  -- one where there is an entry that passes
  abbrev pub passing : K → Option X → ℕ
  passing k None = 0
  passing k (Some v) = one (p (k, v))

  equal_is : (r : Ordering) → is_eq r ≡ true → r ≡ Equal
  equal_is Less e = cc
  equal_is Equal e = refl
  equal_is Greater e = cc

  pub none_below : (k : K) (m : List (K × X)) → AllByRecursion (λ q. R k q ≡ Less) (keys_of m) → at R m k ≡ None
  none_below k [] h = refl
  none_below k (e ∷ m) h = ap (λ r. cond (is_eq r) (Some e.1) (at R m k)) h.0 ∙ none_below k m h.1

  pub less_all : (k q : K) (ks : List K) → R k q ≡ Less → AllByRecursion (λ y. R q y ≡ Less) ks → AllByRecursion (λ y. R k y ≡ Less) ks
  less_all k q [] e h = tt
  less_all k q (y ∷ ks) e h = (o.total.trans k q y e h.0, less_all k q ks e h.1)

  count_removed : (m : List (K × X)) (k : K) → count_by p (remove_entry (is_at (R k)) m) + passing k (at R m k) ≡ count_by p m
  count_removed [] k = refl
  count_removed (e ∷ m) k =
      elim (is_eq (R k e.0)) as (λ b. is_eq (R k e.0) ≡ b → count_by p (cond b m (e ∷ remove_entry (is_at (R k)) m)) + passing k (cond b (Some e.1) (at R m k)) ≡ count_by p (e ∷ m)) [
        | true ↦ λ t.
            let key : k ≡ e.0 = o.exact k e.0 (equal_is _ t) in
            let same : one (p (k, e.1)) ≡ one (p e) = ap (λ q. one (p (q, e.1))) key in
            omega (arith, same, count-cons p e m)
        | false ↦ λ t. omega (arith, count_removed m k, count-cons p e m, count-cons p e (remove_entry (is_at (R k)) m))
      ] refl

  count_put : (m : List (K × X)) (k : K) (v : X) → IsSorted R m → count_by p (insert_entry R m k v) + passing k (at R m k) ≡ count_by p m + one (p (k, v))
  count_put [] k v s = omega (arith, count-cons p (k, v) [])
  count_put (e ∷ m) k v s =
      elim (R k e.0) as (λ r. R k e.0 ≡ r → count_by p (match_ordering r ((k, v) ∷ e ∷ m) ((e.0, v) ∷ m) (e ∷ insert_entry R m k v)) + passing k (cond (is_eq r) (Some e.1) (at R m k)) ≡ count_by p (e ∷ m) + one (p (k, v))) [
        | Less ↦ λ t.
            let none : passing k (at R m k) ≡ 0 = ap (passing k) (none_below k m (less_all k e.0 (keys_of m) t (sorted_head R _ _ s))) in
            omega (arith, none, count-cons p (k, v) (e ∷ m))
        | Equal ↦ λ t.
            let key : k ≡ e.0 = o.exact k e.0 t in
            let old : one (p (k, e.1)) ≡ one (p e) = ap (λ q. one (p (q, e.1))) key in
            let new : one (p (k, v)) ≡ one (p (e.0, v)) = ap (λ q. one (p (q, v))) key in
            omega (arith, old, new, count-cons p e m, count-cons p (e.0, v) m)
        | Greater ↦ λ t. omega (arith, count_put m k v (sorted_tail R _ _ s), count-cons p e m, count-cons p e (insert_entry R m k v))
      ] refl

  -- how many pass once an entry is set
  pub count_set : (m : List (K × X)) (k : K) (w : Option X) → IsSorted R m → count_by p (set R m k w) + passing k (at R m k) ≡ count_by p m + passing k w
  count_set m k None s = count_removed m k ∙ sym (add-zero (count_by p m))
  count_set m k (Some v) s = count_put m k v s
