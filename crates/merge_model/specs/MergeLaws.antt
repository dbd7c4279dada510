-- Laws of the merge.
use Rattle.std.specs.Prelude.{◌≡◌, ℕ, List, Option, Some, None, IsSome, IfSome, option_and_then, refl}
use Rattle.std.specs.declared.cmp.Ordering.{Ordering}
use Rattle.std.proofs.Common.{sym, ap, true≢false}
use Rattle.map_model.specs.Maps.{at, IsSorted, IsKeyOrder}
use Rattle.map_model.specs.MapLaws.{same_maps}
use Rattle.merge_model.specs.Merge.{field, IsMerge}

-- two options that hold the same values are equal
pub same_options : {X : Type 0} (x y : Option X) → ((v : X) → x ≡ Some v → y ≡ Some v) → ((v : X) → y ≡ Some v → x ≡ Some v) → x ≡ y
same_options None None f g = refl
same_options None (Some v) f g = g v refl
same_options (Some v) y f g = sym (f v refl)

module _ {K N V : Type 0} {R : K → K → Ordering} (o : IsKeyOrder R) {S : N → N → Ordering} (s : IsKeyOrder S) where
  same_docs : (x y : Option (List (N × V))) → IfSome x (IsSorted S) → IfSome y (IsSorted S) → (IsSome x → IsSome y) → (IsSome y → IsSome x)
      → ((f : N) → option_and_then (λ d. at S d f) x ≡ option_and_then (λ d. at S d f) y) → x ≡ y
  same_docs None None g h to from fields = refl
  same_docs None (Some b) g h to from fields = absurd (true≢false (sym (from refl)))
  same_docs (Some a) None g h to from fields = absurd (true≢false (sym (to refl)))
  same_docs (Some a) (Some b) g h to from fields = ap Some (same_maps s a b g h fields)

  -- there is at most one merge
  pub one_merge : (shown : ℕ → List (K × List (N × V))) (since : ℕ → K → N → ℕ) (m n : List (K × List (N × V))) → IsMerge R S shown since m →
      IsMerge R S shown since n → m ≡ n
  one_merge shown since m n a b = same_maps o m n a.by_key b.by_key (λ k.
      same_docs (at R m k) (at R n k) (a.by_name k) (b.by_name k)
      (λ h. (b.keys k).1 ((a.keys k).0 h))
      (λ h. (a.keys k).1 ((b.keys k).0 h))
      (λ f. same_options (field R S m k f) (field R S n k f)
      (λ v e. (b.fields k f v).1 ((a.fields k f v).0 e))
      (λ v e. (a.fields k f v).1 ((b.fields k f v).0 e))))
