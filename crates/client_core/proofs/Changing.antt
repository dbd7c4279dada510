-- A call that is changed behind a `get_mut`.
use Rattle.std.proofs.Common.{◌≡◌, ℕ, zero, suc, ◌≤◌, arith, List, [], ◌∷◌, length, get_or, slice_set, refl, sym, ap, ◌∙◌}
use Rattle.client_model.specs.Client.{Call}
use Rattle.client_model.specs.Taking.{call_changed, number_changed}

module _ (f : Call → Call) where
  place_set : (calls : List Call) (place : ℕ) (call : Call) → call ≡ get_or calls place call → slice_set calls place (f call) ≡ call_changed place f calls
  place_set [] place call is = refl
  place_set (x ∷ calls) zero call is = ap (λ (y : Call). f y ∷ calls) is
  place_set (x ∷ calls) (suc place) call is = ap (λ rest. x ∷ rest) (place_set calls place call is)

  place_out : (calls : List Call) (place : ℕ) → length calls ≤ place → calls ≡ call_changed place f calls
  place_out [] place out = refl
  place_out (x ∷ calls) zero out = absurd (omega (arith, out))
  place_out (x ∷ calls) (suc place) out = ap (λ rest. x ∷ rest) (place_out calls place (omega (arith, out)))

  -- the one of this number is changed
  pub number_set : (calls : List Call) (n place : ℕ) (call : Call) → n ≡ suc place → call ≡ get_or calls place call → slice_set calls place (f call) ≡ number_changed n f calls
  number_set calls n place call at is = place_set calls place call is ∙ ap (λ k. number_changed k f calls) (sym at)

  -- where there is none, none is
  pub number_out : (calls : List Call) (n place : ℕ) → n ≡ suc place → length calls ≤ place → calls ≡ number_changed n f calls
  number_out calls n place at out = place_out calls place out ∙ ap (λ k. number_changed k f calls) (sym at)
