-- A call holds what it touched until its `updated` is taken.
use Rattle.std.specs.Prelude.{◌≡◌, ℕ, zero, suc, true, false, cond, not, ◌||◌, List, [], ◌∷◌, slice_get, Some, unwrap_or, refl}
use Rattle.std.specs.List.{list_any}
use Rattle.std.specs.declared.cmp.Ordering.TheVariants.{Less, Equal, Greater}
use Rattle.std.specs.Ordering.{nat_cmp, eq_by_cmp, is_eq, match_ordering}
use Rattle.std.proofs.Common.{sym, ap, ◌∙◌, true≢false}
use Rattle.map_model.specs.Maps.{at, IsSorted}
use Rattle.map_model.specs.MapLaws.{key_is, eq_by_cmp-self}
use Rattle.view_model.specs.Pending.{Pending, is_among, with_number, without_numbers, holders, held_by, let_go}
use Rattle.view_model.specs.PendingLaws.{number_order, at-held_by}
use Rattle.ejson_value.specs.declared.key.Key.{Key}
use Rattle.ejson_value.specs.Key.{key_cmp, key_order}
use Rattle.client_model.specs.Client.{Call}
use Rattle.client_model.specs.Taking.{awaits_update, call_at, call_changed, number_changed, all_changed, with_update}
use Rattle.client_model.specs.CallLaws.{later, holders_left}

-- ---- calls

updated_place : (place : ℕ) (calls : List Call) (i : ℕ) → awaits_update (slice_get calls i) ≡ false →
    awaits_update (slice_get (call_changed place with_update calls) i) ≡ false
updated_place place [] i e = e
updated_place zero (call ∷ calls) zero e = refl
updated_place zero (call ∷ calls) (suc i) e = e
updated_place (suc place) (call ∷ calls) zero e = e
updated_place (suc place) (call ∷ calls) (suc i) e = updated_place place calls i e

updated_number : (m : ℕ) (calls : List Call) (n : ℕ) → awaits_update (call_at calls n) ≡ false →
    awaits_update (call_at (number_changed m with_update calls) n) ≡ false
updated_number zero calls n e = e
updated_number (suc m) calls zero e = refl
updated_number (suc m) calls (suc n) e = updated_place m calls n e

stays_updated : (ns : List ℕ) (calls : List Call) (n : ℕ) → awaits_update (call_at calls n) ≡ false →
    awaits_update (call_at (all_changed ns with_update calls) n) ≡ false
stays_updated [] calls n e = e
stays_updated (m ∷ ns) calls n e = stays_updated ns (number_changed m with_update calls) n (updated_number m calls n e)

own_update : (m : ℕ) (calls : List Call) → awaits_update (call_at (number_changed m with_update calls) m) ≡ false
own_update zero calls = refl
own_update (suc m) calls = by m calls
  where
    by : (place : ℕ) (calls : List Call) → awaits_update (slice_get (call_changed place with_update calls) place) ≡ false
    by place [] = refl
    by zero (call ∷ calls) = refl
    by (suc place) (call ∷ calls) = by place calls

-- the calls that an `updated` names await none afterwards
pub updated_once : (ns : List ℕ) (calls : List Call) (n : ℕ) → is_among ns n ≡ true → awaits_update (call_at (all_changed ns with_update calls) n) ≡ false
updated_once [] calls n e = cc e
updated_once (m ∷ ns) calls n e =
    let rest = updated_once ns (number_changed m with_update calls) n in
    elim (eq_by_cmp nat_cmp n m) as
    (λ b. eq_by_cmp nat_cmp n m ≡ b → (b || is_among ns n) ≡ true →
    awaits_update (call_at (all_changed ns with_update (number_changed m with_update calls)) n) ≡ false) [
      | true ↦ λ t x. stays_updated ns (number_changed m with_update calls) n
          (ap (λ k. awaits_update (call_at (number_changed m with_update calls) k)) (key_is number_order n m t) ∙ own_update m calls)
      | false ↦ λ t x. rest x
    ] refl e

-- ---- holders

with_keeps : (hs : List ℕ) (m n : ℕ) → is_among hs n ≡ true → is_among (with_number hs m) n ≡ true
with_keeps [] m n e = cc e
with_keeps (h ∷ hs) m n e =
    let rest = with_keeps hs m n in
    elim (nat_cmp m h) as (λ o. is_among (match_ordering o (m ∷ h ∷ hs) (h ∷ hs) (h ∷ with_number hs m)) n ≡ true) [
      | Less ↦ later (eq_by_cmp nat_cmp n m) e
      | Equal ↦ e
      | Greater ↦ elim (eq_by_cmp nat_cmp n h) as
          (λ b. (b || is_among hs n) ≡ true → (b || is_among (with_number hs m) n) ≡ true) [ true ↦ λ x. refl | false ↦ λ x. rest x ] e
    ]

with_new : (hs : List ℕ) (m : ℕ) → is_among (with_number hs m) m ≡ true
with_new [] m = ap (λ b. b || false) (eq_by_cmp-self number_order m)
with_new (h ∷ hs) m =
    let rest = with_new hs m in
    elim (nat_cmp m h) as (λ o. nat_cmp m h ≡ o → is_among (match_ordering o (m ∷ h ∷ hs) (h ∷ hs) (h ∷ with_number hs m)) m ≡ true) [
      | Less ↦ λ t. ap (λ b. b || is_among (h ∷ hs) m) (eq_by_cmp-self number_order m)
      | Equal ↦ λ t. ap (λ b. b || is_among hs m) (ap is_eq t)
      | Greater ↦ λ t. later (eq_by_cmp nat_cmp m h) rest
    ] refl

without_keeps : (ns hs : List ℕ) (n : ℕ) → is_among hs n ≡ true → is_among ns n ≡ false → is_among (without_numbers ns hs) n ≡ true
without_keeps ns [] n e free = cc e
without_keeps ns (h ∷ hs) n e free =
    let rest = without_keeps ns hs n in
    elim (is_among ns h) as (λ a. is_among ns h ≡ a → is_among (cond (not a) (h ∷ without_numbers ns hs) (without_numbers ns hs)) n ≡ true) [
      | true ↦ λ t. elim (eq_by_cmp nat_cmp n h) as (λ b. eq_by_cmp nat_cmp n h ≡ b → (b || is_among hs n) ≡ true → is_among (without_numbers ns hs) n ≡ true) [
        | true ↦ λ s x. absurd (true≢false (sym t ∙ ap (is_among ns) (sym (key_is number_order n h s)) ∙ free))
        | false ↦ λ s x. rest x free
      ] refl e
      | false ↦ λ t. elim (eq_by_cmp nat_cmp n h) as
          (λ b. (b || is_among hs n) ≡ true → (b || is_among (without_numbers ns hs) n) ≡ true) [ true ↦ λ x. refl | false ↦ λ x. rest x free ] e
    ] refl

-- who holds a document does so after a call
pub holds_too : (number : ℕ) (keys : List Key) (pending : Pending Key) (k : Key) (n : ℕ) → is_among (holders key_cmp pending k) n ≡ true →
    is_among (holders key_cmp (held_by key_cmp number keys pending) k) n ≡ true
holds_too number keys pending k n e =
    ap (λ w. is_among (unwrap_or w []) n) (at-held_by key_order number keys pending k)
    ∙ elim (list_any (eq_by_cmp key_cmp k) keys) as
    (λ b. is_among (unwrap_or (cond b (Some (with_number (holders key_cmp pending k) number)) (at key_cmp pending k)) []) n ≡ true) [
      | true ↦ with_keeps (holders key_cmp pending k) number n e
      | false ↦ e
    ]

-- and so does the call that touched it
pub touched_held : (number : ℕ) (keys : List Key) (pending : Pending Key) (k : Key) → list_any (eq_by_cmp key_cmp k) keys ≡ true →
    is_among (holders key_cmp (held_by key_cmp number keys pending) k) number ≡ true
touched_held number keys pending k t =
    ap (λ w. is_among (unwrap_or w []) number) (at-held_by key_order number keys pending k)
    ∙ ap (λ b. is_among (unwrap_or (cond b (Some (with_number (holders key_cmp pending k) number)) (at key_cmp pending k)) []) number) t
    ∙ with_new (holders key_cmp pending k) number

-- who isn't of those that let go holds it still
pub holds_on : (ns : List ℕ) (pending : Pending Key) (k : Key) (n : ℕ) → IsSorted key_cmp pending → is_among (holders key_cmp pending k) n ≡ true →
    is_among ns n ≡ false → is_among (holders key_cmp (let_go ns pending) k) n ≡ true
holds_on ns pending k n sorted e free = ap (λ hs. is_among hs n) (holders_left ns pending k sorted) ∙ without_keeps ns (holders key_cmp pending k) n e free
