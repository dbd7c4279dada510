-- Which calls await their `updated`, and which simulations hold a document, after a message and after a call.
use Rattle.std.specs.Prelude.{◌≡◌, ◌≢◌, ◌⊎◌, ℕ, zero, suc, Bool, true, false, cond, not, ◌&&◌, ◌||◌, List, [], ◌∷◌, ◌++◌, length, slice_get, Option}
use Rattle.std.specs.Prelude.{Some, None, option_and_then, unwrap_or, refl}
use Rattle.std.specs.List.{list_any, list_all}
use Rattle.std.specs.declared.cmp.Ordering.TheVariants.{Less, Equal, Greater}
use Rattle.std.specs.Ordering.{nat_cmp, eq_by_cmp, match_ordering}
use Rattle.std.proofs.Common.{sym, ap, ◌∙◌, true≢false, inl, inr}
use Rattle.map_model.specs.Maps.{at, IsSorted}
use Rattle.map_model.specs.MapLaws.{key_is, eq_by_cmp-self}
use Rattle.view_model.specs.Pending.{Pending, is_among, with_number, without_numbers, unless_none, holders, held_by, let_go}
use Rattle.view_model.specs.PendingLaws.{number_order, at-held_by, at-let_go}
use Rattle.ejson_value.specs.declared.key.Key.{Key}
use Rattle.ejson_value.specs.Key.{key_cmp, key_order}
use Rattle.client_model.specs.Client.{Call}
use Rattle.client_model.specs.Taking.{awaits_update, call_at, call_changed, number_changed, all_changed}

-- ---- calls

-- a change that leaves alone whether its call is updated
module _ (f : Call → Call) (keeps : (call : Call) → (f call).is_updated ≡ call.is_updated) where
  place_awaits : (place : ℕ) (calls : List Call) (i : ℕ) → awaits_update (slice_get (call_changed place f calls) i) ≡ awaits_update (slice_get calls i)
  place_awaits place [] i = refl
  place_awaits zero (call ∷ calls) zero = ap not (keeps call)
  place_awaits zero (call ∷ calls) (suc i) = refl
  place_awaits (suc place) (call ∷ calls) zero = refl
  place_awaits (suc place) (call ∷ calls) (suc i) = place_awaits place calls i

  number_awaits : (m : ℕ) (calls : List Call) (n : ℕ) → awaits_update (call_at (number_changed m f calls) n) ≡ awaits_update (call_at calls n)
  number_awaits zero calls n = refl
  number_awaits (suc m) calls zero = refl
  number_awaits (suc m) calls (suc n) = place_awaits m calls n

  pub still_awaits : (ns : List ℕ) (calls : List Call) (n : ℕ) → awaits_update (call_at (all_changed ns f calls) n) ≡ awaits_update (call_at calls n)
  still_awaits [] calls n = refl
  still_awaits (m ∷ ns) calls n = still_awaits ns (number_changed m f calls) n ∙ number_awaits m calls n

-- other calls than the changed ones are as they were
module _ (f : Call → Call) where
  place_else : (place : ℕ) (calls : List Call) (i : ℕ) → i ≢ place → slice_get (call_changed place f calls) i ≡ slice_get calls i
  place_else place [] i apart = refl
  place_else zero (call ∷ calls) zero apart = absurd (apart refl)
  place_else zero (call ∷ calls) (suc i) apart = refl
  place_else (suc place) (call ∷ calls) zero apart = refl
  place_else (suc place) (call ∷ calls) (suc i) apart = place_else place calls i (λ e. apart (ap suc e))

  number_else : (m : ℕ) (calls : List Call) (n : ℕ) → eq_by_cmp nat_cmp n m ≡ false → call_at (number_changed m f calls) n ≡ call_at calls n
  number_else zero calls n apart = refl
  number_else (suc m) calls zero apart = refl
  number_else (suc m) calls (suc n) apart = place_else m calls n
      (λ e. true≢false (sym (eq_by_cmp-self number_order (suc m)) ∙ ap (λ k. eq_by_cmp nat_cmp (suc k) (suc m)) (sym e) ∙ apart))

  pub others_stay : (ns : List ℕ) (calls : List Call) (n : ℕ) → is_among ns n ≡ false → call_at (all_changed ns f calls) n ≡ call_at calls n
  others_stay [] calls n apart = refl
  others_stay (m ∷ ns) calls n apart =
      let later = others_stay ns (number_changed m f calls) n in
      let here = number_else m calls n in
      elim (eq_by_cmp nat_cmp n m) as
      (λ b. eq_by_cmp nat_cmp n m ≡ b → (b || is_among ns n) ≡ false → call_at (all_changed ns f (number_changed m f calls)) n ≡ call_at calls n) [
        | true ↦ λ t e. cc e
        | false ↦ λ t e. later e ∙ here t
      ] refl apart

last_place : (calls : List Call) (call : Call) → slice_get (calls ++ call ∷ []) (length calls) ≡ Some call
last_place [] call = refl
last_place (c ∷ calls) call = last_place calls call

earlier_place : (calls : List Call) (call : Call) (i : ℕ) → awaits_update (slice_get calls i) ≡ true → awaits_update (slice_get (calls ++ call ∷ []) i) ≡ true
earlier_place [] call i e = cc e
earlier_place (c ∷ calls) call zero e = e
earlier_place (c ∷ calls) call (suc i) e = earlier_place calls call i e

-- a new call awaits its `updated`, and those before it as they did
pub new_awaits : (calls : List Call) (call : Call) (n : ℕ) → call.is_updated ≡ false →
    ((n ≡ suc (length calls)) ⊎ (awaits_update (call_at calls n) ≡ true)) → awaits_update (call_at (calls ++ call ∷ []) n) ≡ true
new_awaits calls call n new (inl e) = ap (λ k. awaits_update (call_at (calls ++ call ∷ []) k)) e ∙ ap awaits_update (last_place calls call) ∙ ap not new
new_awaits calls call zero new (inr e) = e
new_awaits calls call (suc n) new (inr e) = earlier_place calls call n e

-- where each call is updated none awaits it
pub none_awaits : (calls : List Call) (n : ℕ) → list_all (λ (call : Call). call.is_updated) calls ≡ true → awaits_update (call_at calls n) ≡ false
none_awaits calls zero all = refl
none_awaits calls (suc n) all = by calls n all
  where
    first : (b c : Bool) → (b && c) ≡ true → b ≡ true
    first true c e = refl
    first false c e = e

    others : (b c : Bool) → (b && c) ≡ true → c ≡ true
    others true c e = e
    others false c e = cc e

    by : (calls : List Call) (i : ℕ) → list_all (λ (call : Call). call.is_updated) calls ≡ true → awaits_update (slice_get calls i) ≡ false
    by [] i all = refl
    by (call ∷ calls) zero all = ap not (first call.is_updated (list_all (λ (call : Call). call.is_updated) calls) all)
    by (call ∷ calls) (suc i) all = by calls i (others call.is_updated (list_all (λ (call : Call). call.is_updated) calls) all)

-- ---- holders

-- a number among those put in is the new one or an old one
among_with : (hs : List ℕ) (m n : ℕ) → is_among (with_number hs m) n ≡ true → (n ≡ m) ⊎ (is_among hs n ≡ true)
among_with [] m n e = elim (eq_by_cmp nat_cmp n m) as
    (λ b. eq_by_cmp nat_cmp n m ≡ b → (b || false) ≡ true → (n ≡ m) ⊎ (false ≡ true))
    [ true ↦ λ t e. inl (key_is number_order n m t) | false ↦ λ t e. inr e ] refl e
among_with (h ∷ hs) m n e =
    let rest = among_with hs m n in
    elim (nat_cmp m h) as (λ o. is_among (match_ordering o (m ∷ h ∷ hs) (h ∷ hs) (h ∷ with_number hs m)) n ≡ true → (n ≡ m) ⊎ (is_among (h ∷ hs) n ≡ true)) [
      | Less ↦ λ x. elim (eq_by_cmp nat_cmp n m) as
          (λ b. eq_by_cmp nat_cmp n m ≡ b → (b || is_among (h ∷ hs) n) ≡ true → (n ≡ m) ⊎ (is_among (h ∷ hs) n ≡ true))
          [ true ↦ λ t y. inl (key_is number_order n m t) | false ↦ λ t y. inr y ] refl x
      | Equal ↦ λ x. inr x
      | Greater ↦ λ x. elim (eq_by_cmp nat_cmp n h) as
          (λ b. (b || is_among (with_number hs m) n) ≡ true → (n ≡ m) ⊎ ((b || is_among hs n) ≡ true)) [ true ↦ λ y. inr refl | false ↦ λ y. rest y ] x
    ] e

pub later : (b : Bool) {c : Bool} → c ≡ true → (b || c) ≡ true
later true e = refl
later false e = e

-- a number that is left was there, and isn't among those that went
among_without : (ns hs : List ℕ) (n : ℕ) → is_among (without_numbers ns hs) n ≡ true → (is_among hs n ≡ true) × (is_among ns n ≡ false)
among_without ns [] n e = cc e
among_without ns (h ∷ hs) n e =
    let rest = among_without ns hs n in
    elim (is_among ns h) as
    (λ a. is_among ns h ≡ a → is_among (cond (not a) (h ∷ without_numbers ns hs) (without_numbers ns hs)) n ≡ true →
    (is_among (h ∷ hs) n ≡ true) × (is_among ns n ≡ false)) [
      | true ↦ λ t x. (later (eq_by_cmp nat_cmp n h) (rest x).0, (rest x).1)
      | false ↦ λ t x. elim (eq_by_cmp nat_cmp n h) as
          (λ b. eq_by_cmp nat_cmp n h ≡ b → (b || is_among (without_numbers ns hs) n) ≡ true → ((b || is_among hs n) ≡ true) × (is_among ns n ≡ false)) [
            | true ↦ λ s y. (refl, ap (is_among ns) (key_is number_order n h s) ∙ t)
            | false ↦ λ s y. rest y
          ] refl x
    ] refl e

-- who holds a document after a call is the new one, or held it before
pub holds_then : (number : ℕ) (keys : List Key) (pending : Pending Key) (k : Key) (n : ℕ) →
    is_among (holders key_cmp (held_by key_cmp number keys pending) k) n ≡ true → (n ≡ number) ⊎ (is_among (holders key_cmp pending k) n ≡ true)
holds_then number keys pending k n e =
    elim (list_any (eq_by_cmp key_cmp k) keys) as
    (λ b. is_among (unwrap_or (cond b (Some (with_number (holders key_cmp pending k) number)) (at key_cmp pending k)) []) n ≡ true →
    (n ≡ number) ⊎ (is_among (holders key_cmp pending k) n ≡ true)) [
      | true ↦ λ x. among_with (holders key_cmp pending k) number n x
      | false ↦ λ x. inr x
    ] (sym (ap (λ w. is_among (unwrap_or w []) n) (at-held_by key_order number keys pending k)) ∙ e)

pub holders_left : (ns : List ℕ) (pending : Pending Key) (k : Key) → IsSorted key_cmp pending →
    holders key_cmp (let_go ns pending) k ≡ without_numbers ns (holders key_cmp pending k)
holders_left ns pending k sorted = ap (λ w. unwrap_or w []) (at-let_go key_order ns pending k sorted) ∙ left (at key_cmp pending k)
  where
    left : (w : Option (List ℕ)) → unwrap_or (option_and_then (λ hs. unless_none (without_numbers ns hs)) w) [] ≡ without_numbers ns (unwrap_or w [])
    left None = refl
    left (Some hs) = by (without_numbers ns hs)
      where
        by : (hs : List ℕ) → unwrap_or (unless_none hs) [] ≡ hs
        by [] = refl
        by (h ∷ hs) = refl

-- who holds a document still did before, and isn't of those that let go
pub holds_still : (ns : List ℕ) (pending : Pending Key) (k : Key) (n : ℕ) → IsSorted key_cmp pending →
    is_among (holders key_cmp (let_go ns pending) k) n ≡ true → (is_among (holders key_cmp pending k) n ≡ true) × (is_among ns n ≡ false)
holds_still ns pending k n sorted e = among_without ns (holders key_cmp pending k) n (sym (ap (λ hs. is_among hs n) (holders_left ns pending k sorted)) ∙ e)
