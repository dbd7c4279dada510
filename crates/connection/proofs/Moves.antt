-- A text that is put on a link, and one that is taken off it.
use Rattle.std.specs.Prelude.{◌≡◌, ℕ, zero, suc, ◌≤◌, ◌<◌, List, [], ◌∷◌, ◌++◌, length, take, drop, slice_get, Some, None, refl}
use Rattle.std.proofs.Common.{ap, arith}

module _ {X : Type 0} where
  pub drop_pushed : (n : ℕ) (xs : List X) (x : X) → n ≤ length xs → drop n (xs ++ x ∷ []) ≡ drop n xs ++ x ∷ []
  drop_pushed zero xs x le = refl
  drop_pushed (suc n) [] x le = absurd (omega (arith, le))
  drop_pushed (suc n) (y ∷ xs) x le = drop_pushed n xs x (omega (arith, le))

  pub take_pushed : (n : ℕ) (xs : List X) (x : X) → n ≤ length xs → take n (xs ++ x ∷ []) ≡ take n xs
  take_pushed zero xs x le = refl
  take_pushed (suc n) [] x le = absurd (omega (arith, le))
  take_pushed (suc n) (y ∷ xs) x le = ap (λ (ys : List X). y ∷ ys) (take_pushed n xs x (omega (arith, le)))

  pub drop_next : (n : ℕ) (xs : List X) (x : X) → slice_get xs n ≡ Some x → drop n xs ≡ x ∷ drop (suc n) xs
  drop_next zero [] x e = cc e
  drop_next zero (y ∷ xs) x e = let same : y ≡ x = cc e in ap (λ z. z ∷ xs) same
  drop_next (suc n) [] x e = cc e
  drop_next (suc n) (y ∷ xs) x e = drop_next n xs x e

  pub take_next : (n : ℕ) (xs : List X) (x : X) → slice_get xs n ≡ Some x → take (suc n) xs ≡ take n xs ++ x ∷ []
  take_next zero [] x e = cc e
  take_next zero (y ∷ xs) x e = let same : y ≡ x = cc e in ap (λ z. z ∷ []) same
  take_next (suc n) [] x e = cc e
  take_next (suc n) (y ∷ xs) x e = ap (λ (ys : List X). y ∷ ys) (take_next n xs x e)

  pub within_next : (n : ℕ) (xs : List X) (x : X) → slice_get xs n ≡ Some x → n < length xs
  within_next zero [] x e = cc e
  within_next zero (y ∷ xs) x e = omega arith
  within_next (suc n) [] x e = cc e
  within_next (suc n) (y ∷ xs) x e = let rest = within_next n xs x e in omega (arith, rest)

  pub drop_end : (n : ℕ) (xs : List X) → slice_get xs n ≡ None → drop n xs ≡ []
  drop_end zero [] e = refl
  drop_end zero (y ∷ xs) e = cc e
  drop_end (suc n) [] e = refl
  drop_end (suc n) (y ∷ xs) e = drop_end n xs e
