-- Subscriptions by place.
use Rattle.std.proofs.Common.{◌≡◌, ℕ, zero, suc, ◌+◌, ◌≤◌, ◌<◌, ◌==◌, List, [], ◌∷◌, map, length, get_or, Bool, true, false, cond, Option, None, Some, option_map, refl, ap, sym, ◌∙◌, arith}
use Rattle.std.specs.Prelude.{not, filter, slice_get, slice_set, option_and_then}
use Rattle.std.proofs.lemmas.Option.{none-some, same_Some}
use Rattle.live_observer.specs.Observing.{AnObserver}
use Rattle.session_model.specs.Subscriptions.{Live, loaded, closed}
use Rattle.session_state.specs.declared.subs.Sub.{Sub}
use Rattle.session_model.specs.Observers.{observers_without, observer_at, observers_with}
use Rattle.session_state.specs.Subs.{as_live, place_from, live_of, placed_at, observers_of, observer_in}

-- those that stay
pub closed_is : (s : ℕ) (subs : List Sub) → map as_live (filter (λ (x : Sub). not (s == x.sub)) subs) ≡ closed s (map as_live subs)
closed_is s [] = refl
closed_is s (x ∷ subs) = elim (s == x.sub) as (λ b. map as_live (cond (not b) (x ∷ filter (λ (y : Sub). not (s == y.sub)) subs) (filter (λ (y : Sub). not (s == y.sub)) subs)) ≡ cond (not b) (as_live x ∷ closed s (map as_live subs)) (closed s (map as_live subs))) [
  | true ↦ closed_is s subs
  | false ↦ ap (λ ls. as_live x ∷ ls) (closed_is s subs)
]

pub without_is : (s : ℕ) (subs : List Sub) → observers_of (filter (λ (x : Sub). not (s == x.sub)) subs) ≡ observers_without s (map as_live subs) (observers_of subs)
without_is s [] = refl
without_is s (x ∷ subs) = elim (s == x.sub) as (λ b. observers_of (cond (not b) (x ∷ filter (λ (y : Sub). not (s == y.sub)) subs) (filter (λ (y : Sub). not (s == y.sub)) subs)) ≡ cond b (observers_without s (map as_live subs) (observers_of subs)) (x.observer ∷ observers_without s (map as_live subs) (observers_of subs))) [
  | true ↦ without_is s subs
  | false ↦ ap (λ os. x.observer ∷ os) (without_is s subs)
]

-- ---- what stands at a place, set anew

pub cursor_set : (subs : List Sub) (place at : ℕ) (x : Sub) → x ≡ get_or subs place x → map as_live (slice_set subs place (record x { cursor = Some at })) ≡ placed_at place at (map as_live subs)
cursor_set [] place at x is = refl
cursor_set (y ∷ subs) zero at x is = ap (λ (z : Sub). record (as_live z) { cursor = Some at } ∷ map as_live subs) is
cursor_set (y ∷ subs) (suc place) at x is = ap (λ ls. as_live y ∷ ls) (cursor_set subs place at x is)

pub same_observers : (subs : List Sub) (place at : ℕ) (x : Sub) → x ≡ get_or subs place x → observers_of (slice_set subs place (record x { cursor = Some at })) ≡ observers_of subs
same_observers [] place at x is = refl
same_observers (y ∷ subs) zero at x is = ap (λ (z : Sub). z.observer ∷ observers_of subs) is
same_observers (y ∷ subs) (suc place) at x is = ap (λ os. y.observer ∷ os) (same_observers subs place at x is)

pub cursor_out : (subs : List Sub) (place at : ℕ) → (place < length subs → ⊥) → map as_live subs ≡ placed_at place at (map as_live subs)
cursor_out [] place at out = refl
cursor_out (x ∷ subs) zero at out = absurd (out (omega arith))
cursor_out (x ∷ subs) (suc place) at out = ap (λ ls. as_live x ∷ ls) (cursor_out subs place at (λ h. out (omega (arith, h))))

-- a subscription that differs in its observer alone
pub same_lives : (subs : List Sub) (place : ℕ) (x y : Sub) → x ≡ get_or subs place x → as_live y ≡ as_live x → map as_live (slice_set subs place y) ≡ map as_live subs
same_lives [] place x y is e = refl
same_lives (z ∷ subs) zero x y is e = ap (λ (l : Live). l ∷ map as_live subs) (e ∙ ap as_live is)
same_lives (z ∷ subs) (suc place) x y is e = ap (λ ls. as_live z ∷ ls) (same_lives subs place x y is e)

pub observer_set : (subs : List Sub) (place : ℕ) (y : Sub) → observers_of (slice_set subs place y) ≡ slice_set (observers_of subs) place y.observer
observer_set [] place y = refl
observer_set (z ∷ subs) zero y = refl
observer_set (z ∷ subs) (suc place) y = ap (λ os. z.observer ∷ os) (observer_set subs place y)

pub observer_out : (subs : List Sub) (place : ℕ) (o : Option AnObserver) → (place < length subs → ⊥) → observers_of subs ≡ slice_set (observers_of subs) place o
observer_out [] place o out = refl
observer_out (x ∷ subs) zero o out = absurd (out (omega arith))
observer_out (x ∷ subs) (suc place) o out = ap (λ os. x.observer ∷ os) (observer_out subs place o (λ h. out (omega (arith, h))))

pub observer_here : (subs : List Sub) (place : ℕ) (x : Sub) → place < length subs → x ≡ get_or subs place x → observer_in place (observers_of subs) ≡ x.observer
observer_here [] place x within is = absurd (omega (arith, within))
observer_here (z ∷ subs) zero x within is = ap (λ (y : Sub). y.observer) (sym is)
observer_here (z ∷ subs) (suc place) x within is = observer_here subs place x (omega (arith, within)) is

-- ---- the first with a number

place_least : (s n p : ℕ) (ls : List Live) → place_from n s ls ≡ Some p → n ≤ p
place_least s n p [] = λ e. absurd (none-some p e)
place_least s n p (l ∷ ls) = elim (s == l.sub) as (λ b. cond b (Some n) (place_from (suc n) s ls) ≡ Some p → n ≤ p) [
  | true ↦ λ e. let is : n ≡ p = same_Some n p e in omega (arith, is)
  | false ↦ λ e. let less : suc n ≤ p = place_least s (suc n) p ls e in omega (arith, less)
]

-- P of the place k holds of the list, where it holds of its first place and of each later one
found : (P : ℕ → Type 0) (s n k p : ℕ) (ls : List Live) (b : Bool) → p ≡ n + k → (b ≡ true → k ≡ 0 → P 0) → ((j : ℕ) → k ≡ suc j → place_from (suc n) s ls ≡ Some p → b ≡ false → p ≡ suc n + j → P (suc j)) → cond b (Some n) (place_from (suc n) s ls) ≡ Some p → P k
found P s n zero p ls true is here later e = here refl refl
found P s n (suc j) p ls true is here later e = let same : n ≡ p = same_Some n p e in absurd (omega (arith, same, is))
found P s n zero p ls false is here later e = let less : suc n ≤ p = place_least s (suc n) p ls e in absurd (omega (arith, less, is))
found P s n (suc j) p ls false is here later e = later j refl e refl (omega (arith, is))

pub loaded_at : (s n k p at : ℕ) (ls : List Live) → p ≡ n + k → place_from n s ls ≡ Some p → placed_at k at ls ≡ loaded s at ls
loaded_at s n k p at [] is = λ e. refl
loaded_at s n k p at (l ∷ ls) is = elim (s == l.sub) as (λ b. cond b (Some n) (place_from (suc n) s ls) ≡ Some p → placed_at k at (l ∷ ls) ≡ cond b (record l { cursor = Some at } ∷ ls) (l ∷ loaded s at ls)) [
  | true ↦ λ e. let same : n ≡ p = same_Some n p e in let none : k ≡ 0 = omega (arith, same, is) in ap (λ (j : ℕ). placed_at j at (l ∷ ls)) none
  | false ↦ λ e. found (λ (j : ℕ). placed_at j at (l ∷ ls) ≡ l ∷ loaded s at ls) s n k p ls false is (λ b z. absurd (cc)) (λ j z f b q. ap (λ rest. l ∷ rest) (loaded_at s (suc n) j p at ls q f)) e
]

pub loaded_none : (s n at : ℕ) (ls : List Live) → place_from n s ls ≡ None → ls ≡ loaded s at ls
loaded_none s n at [] = λ e. refl
loaded_none s n at (l ∷ ls) = elim (s == l.sub) as (λ b. cond b (Some n) (place_from (suc n) s ls) ≡ None → l ∷ ls ≡ cond b (record l { cursor = Some at } ∷ ls) (l ∷ loaded s at ls)) [
  | true ↦ λ e. absurd (none-some n (sym e))
  | false ↦ λ e. ap (λ rest. l ∷ rest) (loaded_none s (suc n) at ls e)
]

pub live_at : (s n k p : ℕ) (subs : List Sub) → p ≡ n + k → place_from n s (map as_live subs) ≡ Some p → option_map as_live (slice_get subs k) ≡ live_of s (map as_live subs)
live_at s n k p [] is = λ e. absurd (none-some p e)
live_at s n k p (x ∷ subs) is = elim (s == x.sub) as (λ b. cond b (Some n) (place_from (suc n) s (map as_live subs)) ≡ Some p → option_map as_live (slice_get (x ∷ subs) k) ≡ cond b (Some (as_live x)) (live_of s (map as_live subs))) [
  | true ↦ λ e. let same : n ≡ p = same_Some n p e in let none : k ≡ 0 = omega (arith, same, is) in ap (λ (j : ℕ). option_map as_live (slice_get (x ∷ subs) j)) none
  | false ↦ λ e. found (λ (j : ℕ). option_map as_live (slice_get (x ∷ subs) j) ≡ live_of s (map as_live subs)) s n k p (map as_live subs) false is (λ b z. absurd (cc)) (λ j z f b q. live_at s (suc n) j p subs q f) e
]

pub live_none : (s n : ℕ) (ls : List Live) → place_from n s ls ≡ None → None ≡ live_of s ls
live_none s n [] = λ e. refl
live_none s n (l ∷ ls) = elim (s == l.sub) as (λ b. cond b (Some n) (place_from (suc n) s ls) ≡ None → None ≡ cond b (Some l) (live_of s ls)) [
  | true ↦ λ e. absurd (none-some n (sym e))
  | false ↦ λ e. live_none s (suc n) ls e
]

pub seen_at : (s n k p : ℕ) (subs : List Sub) → p ≡ n + k → place_from n s (map as_live subs) ≡ Some p → option_and_then (λ (x : Sub). x.observer) (slice_get subs k) ≡ observer_at s (map as_live subs) (observers_of subs)
seen_at s n k p [] is = λ e. absurd (none-some p e)
seen_at s n k p (x ∷ subs) is = elim (s == x.sub) as (λ b. cond b (Some n) (place_from (suc n) s (map as_live subs)) ≡ Some p → option_and_then (λ (y : Sub). y.observer) (slice_get (x ∷ subs) k) ≡ cond b x.observer (observer_at s (map as_live subs) (observers_of subs))) [
  | true ↦ λ e. let same : n ≡ p = same_Some n p e in let none : k ≡ 0 = omega (arith, same, is) in ap (λ (j : ℕ). option_and_then (λ (y : Sub). y.observer) (slice_get (x ∷ subs) j)) none
  | false ↦ λ e. found (λ (j : ℕ). option_and_then (λ (y : Sub). y.observer) (slice_get (x ∷ subs) j) ≡ observer_at s (map as_live subs) (observers_of subs)) s n k p (map as_live subs) false is (λ b z. absurd (cc)) (λ j z f b q. seen_at s (suc n) j p subs q f) e
]

pub seen_in : (s n k p : ℕ) (subs : List Sub) → p ≡ n + k → place_from n s (map as_live subs) ≡ Some p → observer_in k (observers_of subs) ≡ observer_at s (map as_live subs) (observers_of subs)
seen_in s n k p [] is = λ e. absurd (none-some p e)
seen_in s n k p (x ∷ subs) is = elim (s == x.sub) as (λ b. cond b (Some n) (place_from (suc n) s (map as_live subs)) ≡ Some p → observer_in k (observers_of (x ∷ subs)) ≡ cond b x.observer (observer_at s (map as_live subs) (observers_of subs))) [
  | true ↦ λ e. let same : n ≡ p = same_Some n p e in let none : k ≡ 0 = omega (arith, same, is) in ap (λ (j : ℕ). observer_in j (observers_of (x ∷ subs))) none
  | false ↦ λ e. found (λ (j : ℕ). observer_in j (observers_of (x ∷ subs)) ≡ observer_at s (map as_live subs) (observers_of subs)) s n k p (map as_live subs) false is (λ b z. absurd (cc)) (λ j z f b q. seen_in s (suc n) j p subs q f) e
]

pub seen_none : (s n : ℕ) (subs : List Sub) → place_from n s (map as_live subs) ≡ None → None ≡ observer_at s (map as_live subs) (observers_of subs)
seen_none s n [] = λ e. refl
seen_none s n (x ∷ subs) = elim (s == x.sub) as (λ b. cond b (Some n) (place_from (suc n) s (map as_live subs)) ≡ None → None ≡ cond b x.observer (observer_at s (map as_live subs) (observers_of subs))) [
  | true ↦ λ e. absurd (none-some n (sym e))
  | false ↦ λ e. seen_none s (suc n) subs e
]

pub with_at : (s n k p : ℕ) (o : Option AnObserver) (subs : List Sub) → p ≡ n + k → place_from n s (map as_live subs) ≡ Some p → slice_set (observers_of subs) k o ≡ observers_with s o (map as_live subs) (observers_of subs)
with_at s n k p o [] is = λ e. absurd (none-some p e)
with_at s n k p o (x ∷ subs) is = elim (s == x.sub) as (λ b. cond b (Some n) (place_from (suc n) s (map as_live subs)) ≡ Some p → slice_set (observers_of (x ∷ subs)) k o ≡ cond b (o ∷ observers_of subs) (x.observer ∷ observers_with s o (map as_live subs) (observers_of subs))) [
  | true ↦ λ e. let same : n ≡ p = same_Some n p e in let none : k ≡ 0 = omega (arith, same, is) in ap (λ (j : ℕ). slice_set (observers_of (x ∷ subs)) j o) none
  | false ↦ λ e. found (λ (j : ℕ). slice_set (observers_of (x ∷ subs)) j o ≡ x.observer ∷ observers_with s o (map as_live subs) (observers_of subs)) s n k p (map as_live subs) false is (λ b z. absurd (cc)) (λ j z f b q. ap (λ os. x.observer ∷ os) (with_at s (suc n) j p o subs q f)) e
]

pub with_none : (s n : ℕ) (o : Option AnObserver) (subs : List Sub) → place_from n s (map as_live subs) ≡ None → observers_of subs ≡ observers_with s o (map as_live subs) (observers_of subs)
with_none s n o [] = λ e. refl
with_none s n o (x ∷ subs) = elim (s == x.sub) as (λ b. cond b (Some n) (place_from (suc n) s (map as_live subs)) ≡ None → observers_of (x ∷ subs) ≡ cond b (o ∷ observers_of subs) (x.observer ∷ observers_with s o (map as_live subs) (observers_of subs))) [
  | true ↦ λ e. absurd (none-some n (sym e))
  | false ↦ λ e. ap (λ os. x.observer ∷ os) (with_none s (suc n) o subs e)
]
