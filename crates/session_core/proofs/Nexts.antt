-- The message that is handled next.
use Rattle.std.proofs.Common.{◌≡◌, ◌⊎◌, ◌↔◌, ℕ, suc, List, [], ◌∷◌, length, map, Bool, true, false, cond, Option, Some, None, refl, ap, sym, subst, ◌∙◌, arith, inl, inr}
use Rattle.std.specs.Prelude.{◌==◌, ◌&&◌, not, option_map, unwrap_or, is_some, is_none, IsSome, IsNone, IfNone, OnSome, slice_get, get_or, drop}
use Rattle.std.proofs.lemmas.Bool.{ne_eqb}
use Rattle.ddp_messages.specs.ClientMessage.{ClientMessage}
use Rattle.method_queue.specs.Queue.{Waiting, Queue, next_message, taken}
use Rattle.session_core.specs.session_model.Methods.{Blocking}
use Rattle.session_core.specs.session_state.Own.{as_state}
use Rattle.session_core.specs.declared.adding.Addition.{Addition}
use Rattle.session_core.specs.session_laws.Session.{ASession, is_at_work, can_handle}
use Rattle.session_core.specs.declared.inner.Inner.{Inner}
use Rattle.session_core.specs.Kept.{seen, IsKept}
use Rattle.session_core.specs.Handling.{IsNextBy, IsNext}

-- ---- the message that is handled next

some_waits : (ws : List Waiting) (b : Bool) → (not (length (map (λ (w : Waiting). w.message) ws) == 0) && b) ≡ cond b (is_some (slice_get ws 0)) false
some_waits [] true = refl
some_waits [] false = refl
some_waits (w ∷ ws) b = ap (λ (x : Bool). not x && b) (ne_eqb (suc (length (map (λ (v : Waiting). v.message) ws))) 0 (λ e. omega (arith, e))) ∙ one b
  where
    one : (b : Bool) → (true && b) ≡ cond b true false
    one true = refl
    one false = refl

peeks_by : (b : Option Blocking) (ws : List Waiting) → is_some (cond (is_some (option_map (λ (x : Blocking). x.k) b)) None (option_map (λ (w : Waiting). w.message) (slice_get ws 0))) ≡ cond (is_none b) (is_some (slice_get ws 0)) false
peeks_by (Some b) ws = refl
peeks_by None [] = refl
peeks_by None (w ∷ ws) = refl

pub peeks : (a : Inner) → IsKept a → is_some (next_message a.queue) ≡ (not (length (seen a).carried.waiting == 0) && is_none (as_state a.parts.own).blocking)
peeks a k =
    ap (λ (o : Option ℕ). is_some (cond (is_some o) None (option_map (λ (w : Waiting). w.message) (slice_get a.queue.waiting 0)))) k.blocks
    ∙ (peeks_by (as_state a.parts.own).blocking a.queue.waiting ∙ sym (some_waits a.queue.waiting (is_none (as_state a.parts.own).blocking)))

pub some_mapped : {A B : Type 0} (f : A → B) (o : Option A) → is_some o ≡ is_some (option_map f o)
some_mapped f None = refl
some_mapped f (Some x) = refl

second : (a b : Bool) → (a && b) ≡ true → b ≡ true
second true b e = e
second false b e = cc e

-- there is one where one can be handled
pub has_next : (a : Inner) → IsKept a → can_handle (seen a) ≡ true → is_some (next_message a.queue) ≡ true
has_next a k can = peeks a k ∙ second (is_at_work (seen a)) _ can

none_by : (o : Option Blocking) → is_none o ≡ true → o ≡ None
none_by None e = refl
none_by (Some b) e = cc e

pub none_blocks : (a : Inner) → can_handle (seen a) ≡ true → (as_state a.parts.own).blocking ≡ None
none_blocks a can = none_by (as_state a.parts.own).blocking (second (not (length (seen a).carried.waiting == 0)) _ (second (is_at_work (seen a)) _ can))

pub is_free : (a : Inner) → IsKept a → can_handle (seen a) ≡ true → a.queue.blocks ≡ None
is_free a k can = k.blocks ∙ ap (option_map (λ (b : Blocking). b.k)) (none_blocks a can)

next_by : (ps : List ℕ) (ws : List Waiting) (s : ASession) (m : ClientMessage) (p : ℕ) (x : Addition) → length ps ≡ length ws → Some m ≡ option_map (λ (w : Waiting). w.message) (slice_get ws 0) → p ≡ get_or ps 0 p → IsNextBy p m s x →
    IsNext ps (map (λ (w : Waiting). w.message) ws) s (Some x)
next_by [] [] s m p x e some first by = cc some
next_by [] (w ∷ ws) s m p x e some first by = omega (arith, e)
next_by (q ∷ ps) [] s m p x e some first by = cc some
next_by (q ∷ ps) (w ∷ ws) s m p x e some first by =
    let same : m ≡ w.message = ap (λ (o : Option ClientMessage). unwrap_or o m) some in
    subst (λ (n : ℕ). IsNextBy n w.message s x) first (subst (λ (y : ClientMessage). IsNextBy p y s x) same by)

pub next_is : (a : Inner) (m : ClientMessage) (p : ℕ) (x : Addition) → IsKept a → can_handle (seen a) ≡ true → Some m ≡ next_message a.queue → p ≡ get_or a.places.items 0 p → IsNextBy p m (seen a) x →
    IsNext (seen a).places (seen a).carried.waiting (seen a) (Some x)
next_is a m p x k can some first by =
    next_by a.places.items a.queue.waiting (seen a) m p x k.places (some ∙ ap (λ (o : Option ℕ). cond (is_some o) None (option_map (λ (w : Waiting). w.message) (slice_get a.queue.waiting 0))) (is_free a k can)) first by

-- ---- what the queue becomes

pub is_taken : {M : Type 0} (q q' : Queue) (r : Option M) → q.blocks ≡ None → OnSome r (q' ≡ taken q) → IfNone r (q' ≡ q) → (IsNone r ↔ ((q.waiting ≡ []) ⊎ IsSome q.blocks)) → q' ≡ taken q
is_taken q q' (Some m) free some none why = some
is_taken q q' None free some none why = none ∙ by (why.0 refl)
  where
    no_way : (o : Option ℕ) → o ≡ None → IsSome o → ⊥
    no_way None e b = cc b
    no_way (Some k) e b = cc e

    by : (q.waiting ≡ []) ⊎ IsSome q.blocks → q ≡ taken q
    by (inl e) = ap (λ (ws : List Waiting). record q { waiting = ws }) (e ∙ sym (ap (drop 1) e))
    by (inr b) = absurd (no_way q.blocks free b)
