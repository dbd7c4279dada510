-- One key of a map is put, taken out, or taken over from another map.
use Rattle.std.proofs.Common.{◌≡◌, ◌⊎◌, inl, inr, true, false, cond, List, Option, Some, None, is_some, IsSome, unwrap_or, refl, sym, ap, ap₂, ◌∙◌, true≢false}
use Rattle.std.proofs.lemmas.Cmp.{eq_by_cmp_equiv}
use Rattle.std.specs.declared.cmp.Ordering.{Ordering}
use Rattle.std.specs.Ordering.{eq_by_cmp, is_eq}
use Rattle.map_model.specs.Maps.{at, IsKeyOrder}
use Rattle.map_model.specs.MapLaws.{key_is, eq_by_cmp-self}

nothing_there : {X : Type 0} (x : X) → None ≡ Some x → ⊥
nothing_there x e = cc

some_of : {X : Type 0} (x : Option X) → IsSome x → (v : X) × (x ≡ Some v)
some_of None h = absurd (true≢false (sym h))
some_of (Some v) h = (v, refl)

either_way : {K : Type 0} {R : K → K → Ordering} (o : IsKeyOrder R) (key k : K) → is_eq (R key k) ≡ eq_by_cmp R k key
either_way o key k = (eq_by_cmp_equiv o.total).symm key k

module _ {K X : Type 0} {R : K → K → Ordering} (o : IsKeyOrder R) where
  -- new is old with w at the key
  module _ (old new : List (K × X)) (key : K) (w : Option X) (change : (k : K) → at R new k ≡ cond (is_eq (R key k)) w (at R old k)) where
    pub put_at : (k : K) → at R new k ≡ cond (eq_by_cmp R k key) w (at R old k)
    put_at k = change k ∙ ap (λ b. cond b w (at R old k)) (either_way o key k)

    pub put_here : at R new key ≡ w
    put_here = put_at key ∙ ap (λ b. cond b w (at R old key)) (eq_by_cmp-self o key)

    pub put_others : (k : K) → eq_by_cmp R k key ≡ false → at R new k ≡ at R old k
    put_others k other = put_at k ∙ ap (λ b. cond b w (at R old k)) other

    pub put_or : (d x : X) → unwrap_or w d ≡ x → (k : K) → unwrap_or (at R new k) d ≡ cond (eq_by_cmp R k key) x (unwrap_or (at R old k) d)
    put_or d x is k = ap (λ v. unwrap_or v d) (put_at k)
        ∙ elim (eq_by_cmp R k key) as (λ b. unwrap_or (cond b w (at R old k)) d ≡ cond b x (unwrap_or (at R old k) d)) [ true ↦ is | false ↦ refl ]

    pub put_grows : IsSome w → (k : K) → IsSome (at R old k) → IsSome (at R new k)
    put_grows some k was = ap is_some (put_at k) ∙ elim (eq_by_cmp R k key) as (λ b. is_some (cond b w (at R old k)) ≡ true) [ true ↦ some | false ↦ was ]

    -- a place with nothing in it
    pub put_nothing : (d : X) → w ≡ Some d → is_some (at R old key) ≡ false → (k : K) → unwrap_or (at R new k) d ≡ unwrap_or (at R old k) d
    put_nothing d is none k = ap (λ x. unwrap_or x d) (put_at k ∙ ap (λ v. cond (eq_by_cmp R k key) v (at R old k)) is)
        ∙ elim (eq_by_cmp R k key) as (λ b. eq_by_cmp R k key ≡ b → unwrap_or (cond b (Some d) (at R old k)) d ≡ unwrap_or (at R old k) d) [
          | true ↦ λ t. sym (nowhere (at R old k) (ap (λ q. is_some (at R old q)) (key_is o k key t) ∙ none))
          | false ↦ λ _. refl
        ] refl
      where
        nowhere : (x : Option X) → is_some x ≡ false → unwrap_or x d ≡ d
        nowhere None e = refl
        nowhere (Some v) e = absurd (true≢false e)

  -- rest is all without the key, where all has x
  module _ (all rest : List (K × X)) (key : K) (updates : (k : K) → at R rest k ≡ cond (is_eq (R key k)) None (at R all k)) where
    left_at : (k : K) → at R rest k ≡ cond (eq_by_cmp R k key) None (at R all k)
    left_at k = updates k ∙ ap (λ b. cond b None (at R all k)) (either_way o key k)

    -- what is left is of another key
    pub left_from : (k : K) (x : X) → at R rest k ≡ Some x → (eq_by_cmp R k key ≡ false) × (at R all k ≡ Some x)
    left_from k x is = elim (eq_by_cmp R k key) as (λ b. cond b None (at R all k) ≡ Some x → (b ≡ false) × (at R all k ≡ Some x)) [
      | true ↦ λ none. absurd (nothing_there x none)
      | false ↦ λ same. (refl, same)
    ] (sym (left_at k) ∙ is)

    pub left_room : {Y : Type 0} (old new : List (K × Y)) → ((k : K) → IsSome (at R all k) → IsSome (at R old k)) → ((k : K) → eq_by_cmp R k key ≡ false → at R new k ≡ at R old k)
        → (k : K) → IsSome (at R rest k) → IsSome (at R new k)
    left_room old new room others k some =
        let e = some_of (at R rest k) some in
        let other = left_from k e.0 e.1 in
        ap is_some (others k other.0) ∙ room k (ap is_some other.1)

    pub left_or : (old new : List (K × X)) (x d : X) → at R all key ≡ Some x → ((k : K) → unwrap_or (at R new k) d ≡ cond (eq_by_cmp R k key) x (unwrap_or (at R old k) d))
        → (k : K) → unwrap_or (at R rest k) (unwrap_or (at R new k) d) ≡ unwrap_or (at R all k) (unwrap_or (at R old k) d)
    left_or old new x d value put k = ap₂ unwrap_or (left_at k) (put k)
        ∙ elim (eq_by_cmp R k key) as (λ b. eq_by_cmp R k key ≡ b → unwrap_or (cond b None (at R all k)) (cond b x (unwrap_or (at R old k) d)) ≡ unwrap_or (at R all k) (unwrap_or (at R old k) d)) [
          | true ↦ λ t. sym (ap (λ y. unwrap_or y (unwrap_or (at R old k) d)) (ap (at R all) (key_is o k key t) ∙ value))
          | false ↦ λ _. refl
        ] refl

    -- a key that is left has what it had, and the key itself nothing
    pub left_cases : (k : K) → ((eq_by_cmp R k key ≡ true) × (at R rest k ≡ None)) ⊎ ((eq_by_cmp R k key ≡ false) × (at R rest k ≡ at R all k))
    left_cases k = elim (eq_by_cmp R k key) as (λ b. eq_by_cmp R k key ≡ b → ((eq_by_cmp R k key ≡ true) × (at R rest k ≡ None)) ⊎ ((eq_by_cmp R k key ≡ false) × (at R rest k ≡ at R all k))) [
      | true ↦ λ t. inl (t, left_at k ∙ ap (λ b. cond b None (at R all k)) t)
      | false ↦ λ t. inr (t, left_at k ∙ ap (λ b. cond b None (at R all k)) t)
    ] refl
