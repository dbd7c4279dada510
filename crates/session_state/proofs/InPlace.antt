-- Calls and subscriptions that are changed in place.
use Rattle.std.proofs.Common.{◌≡◌, ℕ, zero, suc, ◌≤◌, ◌<◌, List, [], ◌∷◌, map, length, get_or, Option, None, Some, option_map, option_to_list, refl, ap, sym, ◌∙◌, arith}
use Rattle.std.proofs.Common.{Bor}
use Rattle.std.specs.Prelude.{slice_get, slice_set}
use Rattle.std.specs.Option.{option_copied}
use Rattle.std.specs.Slice.{IsItemAt}
use Rattle.std.proofs.lemmas.Option.{slice_get_past, slice_get_read}
use Rattle.session_model.specs.Methods.{Phase, Method, phase_at, id_at, turned}
use Rattle.session_state.specs.declared.calls.Method.{Method as TheMethod}
use Rattle.session_state.specs.declared.calls.Phase.{Phase as ThePhase}
use Rattle.session_state.specs.declared.progress.Progress.{Progress}
use Rattle.session_state.specs.Calls.{as_phase, as_method, fired_by, fire_at, fire_from}

pub fire_step : (p : Progress) (n : ℕ) (ms : List Method) → fire_from p (suc n) (fire_at p n ms) ≡ fire_from p n ms
fire_step p zero [] = refl
fire_step p (suc n) [] = refl
fire_step p zero (m ∷ ms) = refl
fire_step p (suc n) (m ∷ ms) = ap (λ rest. m ∷ rest) (fire_step p n ms)

pub fire_end : (p : Progress) (n : ℕ) (ms : List Method) → length ms ≤ n → fire_from p n ms ≡ ms
fire_end p zero [] less = refl
fire_end p zero (m ∷ ms) less = absurd (omega (arith, less))
fire_end p (suc n) [] less = refl
fire_end p (suc n) (m ∷ ms) less = ap (λ rest. m ∷ rest) (fire_end p n ms (omega (arith, less)))

pub fire_length : (p : Progress) (n : ℕ) (ms : List Method) → length (fire_at p n ms) ≡ length ms
fire_length p n [] = refl
fire_length p zero (m ∷ ms) = refl
fire_length p (suc n) (m ∷ ms) = ap suc (fire_length p n ms)

-- a call at a place that is set anew
pub fire_set : (p : Progress) (ms : List TheMethod) (place : ℕ) (m : TheMethod) (q : ThePhase) → m ≡ get_or ms place m → as_phase q ≡ fired_by p (as_phase m.phase) →
    map as_method (slice_set ms place (record m { phase = q })) ≡ fire_at p place (map as_method ms)
fire_set p [] place m q is e = refl
fire_set p (x ∷ ms) zero m q is e = ap (λ (r : Phase). record { id = m.id; phase = r } ∷ map as_method ms) e ∙ ap (λ (y : TheMethod). record (as_method y) { phase = fired_by p (as_phase y.phase) } ∷ map as_method ms) is
fire_set p (x ∷ ms) (suc place) m q is e = ap (λ rest. as_method x ∷ rest) (fire_set p ms place m q is e)

pub turned_set : (ms : List TheMethod) (k : ℕ) (m : TheMethod) (q : ThePhase) → m ≡ get_or ms k m → map as_method (slice_set ms k (record m { phase = q })) ≡ turned k (as_phase q) (map as_method ms)
turned_set [] k m q is = refl
turned_set (x ∷ ms) zero m q is = ap (λ (y : TheMethod). record (as_method y) { phase = as_phase q } ∷ map as_method ms) is
turned_set (x ∷ ms) (suc k) m q is = ap (λ rest. as_method x ∷ rest) (turned_set ms k m q is)

-- there is none at the place
pub fire_out : (p : Progress) (ms : List TheMethod) (n : ℕ) → (n < length ms → ⊥) → map as_method ms ≡ fire_at p n (map as_method ms)
fire_out p [] n out = refl
fire_out p (m ∷ ms) zero out = absurd (out (omega arith))
fire_out p (m ∷ ms) (suc n) out = ap (λ rest. as_method m ∷ rest) (fire_out p ms n (λ h. out (omega (arith, h))))

pub turned_out : (ms : List TheMethod) (k : ℕ) (q : Phase) → (k < length ms → ⊥) → map as_method ms ≡ turned k q (map as_method ms)
turned_out [] k q out = refl
turned_out (m ∷ ms) zero q out = absurd (out (omega arith))
turned_out (m ∷ ms) (suc k) q out = ap (λ rest. as_method m ∷ rest) (turned_out ms k q (λ h. out (omega (arith, h))))

-- ---- what stands at a place

pub item_there : {X : Type 0} (xs : List X) (k : ℕ) (r : Option (Bor X)) → IsItemAt xs k r → option_copied r ≡ slice_get xs k
item_there xs k None h = sym (slice_get_past xs k h.3)
item_there xs k (Some x) h = sym (slice_get_read xs (length xs) k x.now refl h.3.0 h.1)

pub phase_there : (ms : List TheMethod) (k : ℕ) → option_map (λ (m : TheMethod). as_phase m.phase) (slice_get ms k) ≡ phase_at k (map as_method ms)
phase_there [] k = refl
phase_there (m ∷ ms) zero = refl
phase_there (m ∷ ms) (suc k) = phase_there ms k

pub id_there : (ms : List TheMethod) (k : ℕ) → option_to_list (option_map (λ (m : TheMethod). m.id) (slice_get ms k)) ≡ id_at k (map as_method ms)
id_there [] k = refl
id_there (m ∷ ms) zero = refl
id_there (m ∷ ms) (suc k) = id_there ms k
