-- Lists that rise by a number: one that stands among another is no longer, and where it is as long, it is the same.
use Rattle.std.specs.Prelude.{◌≡◌, ◌⊎◌, ℕ, zero, suc, ◌<◌, ◌≤◌, List, [], ◌∷◌, ◌++◌, length, map, filter, cond, Bool, true, false, Contains}
use Rattle.std.specs.Prelude.{slice_index_or, refl}
use Rattle.std.proofs.Common.{ap, sym, subst, ◌∙◌, arith, inl, inr, ⊎_elim, length-append}
use Rattle.std.proofs.lemmas.List.Elements.{All-head, All-tail, All-cons, Contains-append_left}
use Rattle.history_model.specs.History.{AllAbove, Rise}
use Rattle.lane_model.specs.Among.{AreAmong, AllBelow}

module _ {X : Type 0} where
  -- ---- elements

  none_in : (x : X) → Contains [] x → ⊥
  none_in x h = omega (arith, h.1)

  later : (y x : X) (ys : List X) → Contains ys x → Contains (y ∷ ys) x
  later y x ys h = let lt = h.1 in (suc h.0, omega (arith, lt), h.2)

  first_or_later : (y x : X) (ys : List X) → Contains (y ∷ ys) x → (y ≡ x) ⊎ Contains ys x
  first_or_later y x ys h = by h.0 h.1 h.2
    where
      by : (i : ℕ) → i < length (y ∷ ys) → slice_index_or (y ∷ ys) i x ≡ x → (y ≡ x) ⊎ Contains ys x
      by zero lt is = inl is
      by (suc i) lt is = inr (i, omega (arith, lt), is)

  pub among_more : (xs ys zs : List X) → AreAmong xs ys → AreAmong xs (ys ++ zs)
  among_more [] ys zs h = λ k d lt. absurd (omega (arith, lt))
  among_more (x ∷ xs) ys zs h =
      All-cons (Contains (ys ++ zs)) x xs (Contains-append_left ys zs x (All-head (Contains ys) x xs h)) (among_more xs ys zs (All-tail (Contains ys) x xs h))

  pub among_snoc : (xs ys : List X) (y : X) → AreAmong xs ys → Contains ys y → AreAmong (xs ++ y ∷ []) ys
  among_snoc [] ys y h c = All-cons (Contains ys) y [] c h
  among_snoc (x ∷ xs) ys y h c =
      All-cons (Contains ys) x (xs ++ y ∷ []) (All-head (Contains ys) x xs h) (among_snoc xs ys y (All-tail (Contains ys) x xs h) c)

module _ {X : Type 0} (k : X → ℕ) where
  -- ---- numbers

  above_one : (n : ℕ) (ys : List X) (x : X) → AllAbove n (map k ys) → Contains ys x → n < k x
  above_one n [] x a c = absurd (none_in x c)
  above_one n (y ∷ ys) x a c =
      ⊎_elim (λ (same : y ≡ x). subst (λ z. n < k z) same a.0) (λ (there : Contains ys x). above_one n ys x a.1 there) (first_or_later y x ys c)

  above_trans : (n m : ℕ) (xs : List X) → n < m → AllAbove m (map k xs) → AllAbove n (map k xs)
  above_trans n m [] lt a = tt
  above_trans n m (x ∷ xs) lt a = (omega (arith, lt, a.0), above_trans n m xs lt a.1)

  -- those that are above the first one stand behind it
  among_rest : (y : X) (xs ys : List X) → AllAbove (k y) (map k xs) → AreAmong xs (y ∷ ys) → AreAmong xs ys
  among_rest y [] ys a h = λ i d lt. absurd (omega (arith, lt))
  among_rest y (x ∷ xs) ys a h =
      All-cons (Contains ys) x xs (by (first_or_later y x ys (All-head (Contains (y ∷ ys)) x xs h)))
      (among_rest y xs ys a.1 (All-tail (Contains (y ∷ ys)) x xs h))
    where
      by : (y ≡ x) ⊎ Contains ys x → Contains ys x
      by (inl same) = let eq : k y ≡ k x = ap k same in absurd (omega (arith, eq, a.0))
      by (inr there) = there

  -- ---- one list among another

  -- the first is no longer, and is the second where it is as long
  pub record IsWithin (xs ys : List X) : Type 0 where
    pub shorter : length xs ≤ length ys
    pub whole : length xs ≡ length ys → xs ≡ ys

  pub rising_within : (xs ys : List X) → Rise (map k xs) → Rise (map k ys) → AreAmong xs ys → IsWithin xs ys
  rising_within [] [] r q h = record { shorter = omega arith; whole = λ e. refl }
  rising_within [] (y ∷ ys) r q h = record { shorter = omega arith; whole = λ e. absurd (omega (arith, e)) }
  rising_within (x ∷ xs) [] r q h = absurd (none_in x (All-head (Contains []) x xs h))
  rising_within (x ∷ xs) (y ∷ ys) r q h =
      by (first_or_later y x ys (All-head (Contains (y ∷ ys)) x xs h)) (λ rest. rising_within xs ys r.1 q.1 rest) (λ rest. rising_within (x ∷ xs) ys r q.1 rest)
    where
      by : (y ≡ x) ⊎ Contains ys x → (AreAmong xs ys → IsWithin xs ys) → (AreAmong (x ∷ xs) ys → IsWithin (x ∷ xs) ys) → IsWithin (x ∷ xs) (y ∷ ys)
      by (inl same) tails wholes =
          let behind : AllAbove (k y) (map k xs) = subst (λ z. AllAbove (k z) (map k xs)) (sym same) r.0 in
          let rest = tails (among_rest y xs ys behind (All-tail (Contains (y ∷ ys)) x xs h)) in
          let le = rest.shorter in
          record {
            shorter = omega (arith, le);
            whole = λ e. let tail : xs ≡ ys = rest.whole (omega (arith, e)) in ap (λ z. z ∷ xs) (sym same) ∙ ap (λ zs. y ∷ zs) tail;
          }
      by (inr there) tails wholes =
          let up = above_one (k y) ys x q.0 there in
          let behind : AllAbove (k y) (map k (x ∷ xs)) = (up, above_trans (k y) (k x) xs up r.0) in
          let rest = wholes (among_rest y (x ∷ xs) ys behind h) in
          let le = rest.shorter in
          record { shorter = omega (arith, le); whole = λ e. absurd (omega (arith, e, le)) }

  -- ---- one more at the end

  above_snoc : (n : ℕ) (xs : List X) (x : X) → AllAbove n (map k xs) → n < k x → AllAbove n (map k (xs ++ x ∷ []))
  above_snoc n [] x a lt = (lt, tt)
  above_snoc n (y ∷ xs) x a lt = (a.0, above_snoc n xs x a.1 lt)

  pub rise_snoc : (xs : List X) (x : X) → Rise (map k xs) → AllBelow k (k x) xs → Rise (map k (xs ++ x ∷ []))
  rise_snoc [] x r b = (tt, tt)
  rise_snoc (y ∷ xs) x r b = (above_snoc (k y) xs x r.0 b.0, rise_snoc xs x r.1 b.1)

  -- one that is not below those of a list that stands among another is one more there
  pub more_within : (xs ys : List X) (x : X) → Rise (map k xs) → Rise (map k ys) → AreAmong xs ys → AllBelow k (k x) xs → Contains ys x → length xs < length ys
  more_within xs ys x r q h b c =
      let w = rising_within (xs ++ x ∷ []) ys (rise_snoc xs x r b) q (among_snoc xs ys x h c) in
      let long = length-append xs (x ∷ []) in
      let le = w.shorter in omega (arith, le, long)

  -- ---- some of them

  above_some : (n : ℕ) (p : X → Bool) (xs : List X) → AllAbove n (map k xs) → AllAbove n (map k (filter p xs))
  above_some n p [] a = tt
  above_some n p (x ∷ xs) a = elim (p x) as
      (λ b. AllAbove n (map k (cond b (x ∷ filter p xs) (filter p xs)))) [ true ↦ (a.0, above_some n p xs a.1) | false ↦ above_some n p xs a.1 ]

  pub rise_some : (p : X → Bool) (xs : List X) → Rise (map k xs) → Rise (map k (filter p xs))
  rise_some p [] r = tt
  rise_some p (x ∷ xs) r = elim (p x) as
      (λ b. Rise (map k (cond b (x ∷ filter p xs) (filter p xs)))) [ true ↦ (above_some (k x) p xs r.0, rise_some p xs r.1) | false ↦ rise_some p xs r.1 ]
