-- Laws: The call that blocks is the last one, and it runs.
use Rattle.std.specs.Prelude.{◌≡◌, ℕ, zero, suc, List, [], ◌∷◌, ◌++◌, length, true, false, cond, Option, Some, None, Ok, Err, is_some, option_map, refl}
use Rattle.std.proofs.Common.{ap, sym, subst, ◌∙◌}
use Rattle.std.proofs.lemmas.Bool.{eqb-true, eq-eqb}
use Rattle.ddp_messages.specs.ClientMessage.{ClientMessage}
use Rattle.ddp_messages.specs.ClientMessage as client
use Rattle.value_model.specs.Val.{Val}
use Rattle.app_model.specs.App.{App, method}
use Rattle.session_model.specs.declared.fault.SubFault.TheVariants as fault
use Rattle.session_model.specs.Publication.{Making, making}
use Rattle.session_model.specs.Items.{Item, id_of}
use Rattle.session_model.specs.Items as item
use Rattle.session_model.specs.Subscriptions.{Live, sub_named, is_crowded}
use Rattle.session_model.specs.Methods.{Phase, running, refused, finished, Method, Blocking, is_blocked_by, freed, phase_at, turned, fired, fire}
use Rattle.session_model.specs.State.{State, own_after, after, state_from}
use Rattle.session_model.specs.Moments.{Moment, moment_at}
use Rattle.session_model.specs.Fits.{seed_or, opened_by, closed_by, item_for, IsRefusedAt, CanFollow, FitsFrom}
use Rattle.session_journal_laws.specs.Blocking.{BlocksLast, IsLast}

-- ---- one call's phase

pub turned_here : (k : ℕ) (p q : Phase) (ms : List Method) → phase_at k ms ≡ Some q → phase_at k (turned k p ms) ≡ Some p
turned_here k p q [] e = cc e
turned_here zero p q (m ∷ ms) e = refl
turned_here (suc k) p q (m ∷ ms) e = turned_here k p q ms e

pub turned_other : (j k : ℕ) (p : Phase) (ms : List Method) → (j ≡ k → ⊥) → phase_at j (turned k p ms) ≡ phase_at j ms
turned_other j k p [] ne = refl
turned_other zero zero p (m ∷ ms) ne = absurd (ne refl)
turned_other (suc j) zero p (m ∷ ms) ne = refl
turned_other zero (suc k) p (m ∷ ms) ne = refl
turned_other (suc j) (suc k) p (m ∷ ms) ne = turned_other j k p ms (λ e. ne (ap suc e))

pub phase_new : (ms : List Method) (m : Method) → phase_at (length ms) (ms ++ m ∷ []) ≡ Some m.phase
phase_new [] m = refl
phase_new (x ∷ ms) m = phase_new ms m

pub phase_old : (k : ℕ) (p : Phase) (ms : List Method) (m : Method) → phase_at k ms ≡ Some p → phase_at k (ms ++ m ∷ []) ≡ Some p
phase_old k p [] m e = cc e
phase_old zero p (x ∷ ms) m e = e
phase_old (suc k) p (x ∷ ms) m e = phase_old k p ms m e

pub phase_fired : (ls : List Live) (k : ℕ) (ms : List Method) → phase_at k (fire ls ms) ≡ option_map (fired ls) (phase_at k ms)
phase_fired ls k [] = refl
phase_fired ls zero (m ∷ ms) = refl
phase_fired ls (suc k) (m ∷ ms) = phase_fired ls k ms

-- ---- the call of a message that is handled

call_none : (m : ClientMessage) (f : Making) (s k : ℕ) (message : ClientMessage) (seed : Val) → opened_by s m f ≡ item.call k message seed → ⊥
call_none m (Ok cursors) s k message seed e = cc e
call_none m (Err x) s k message seed e = cc e

close_none : (m : ClientMessage) (o : Option ℕ) (k : ℕ) (message : ClientMessage) (seed : Val) → closed_by m o ≡ item.call k message seed → ⊥
close_none m None k message seed e = cc e
close_none m (Some s) k message seed e = cc e

-- the next number is given to it
pub call_number : (app : App) (number : ℕ) (st : State) (m : ClientMessage) (k : ℕ) (message : ClientMessage) (seed : Val) →
    item_for app number st m ≡ item.call k message seed → k ≡ length st.methods
call_number app number st (client.method id name params s) k message seed e =
    elim (is_some (method app name)) as
    (λ b. cond b (item.call (length st.methods) (client.method id name params s) (seed_or number (length st.methods) s))
    (item.unknown (client.method id name params s)) ≡ item.call k message seed → k ≡ length st.methods) [
      | true ↦ λ is. cc is
      | false ↦ λ is. cc is
    ] e
call_number app number st (client.sub id name params) k message seed e =
    elim (is_some (sub_named id st.subs)) as
    (λ b. cond b (item.same (client.sub id name params)) (cond (is_crowded st.subs) (item.nosub (client.sub id name params) (Some fault.TooMany))
    (opened_by st.opened (client.sub id name params) (making app name params))) ≡ item.call k message seed → k ≡ length st.methods) [
      | true ↦ λ is. cc is
      | false ↦ elim (is_crowded st.subs) as
          (λ b. cond b (item.nosub (client.sub id name params) (Some fault.TooMany))
          (opened_by st.opened (client.sub id name params) (making app name params)) ≡ item.call k message seed → k ≡ length st.methods) [
            | true ↦ λ is. cc is
            | false ↦ λ is. absurd (call_none (client.sub id name params) (making app name params) st.opened k message seed is)
          ]
    ] e
call_number app number st (client.unsub id) k message seed e = absurd (close_none (client.unsub id) (sub_named id st.subs) k message seed e)
call_number app number st (client.connect version support) k message seed e = cc e
call_number app number st (client.ping id) k message seed e = cc e
call_number app number st (client.pong id) k message seed e = cc e

-- ---- what blocks

pub refused_blocks : (o : Option Moment) (k : ℕ) (b : Option Blocking) → IsRefusedAt o k b → is_blocked_by k b ≡ true
refused_blocks None k b r = absurd r
refused_blocks (Some m) k None r = absurd r
refused_blocks (Some m) k (Some b) r = eq-eqb k b.k (sym r.number)

pub still_blocked : (j k : ℕ) (b : Option Blocking) → is_blocked_by j (freed k b) ≡ true → (is_blocked_by j b ≡ true) × (j ≡ k → ⊥)
still_blocked j k b e =
    elim (is_blocked_by k b) as (λ c. is_blocked_by k b ≡ c → is_blocked_by j (cond c None b) ≡ true → (is_blocked_by j b ≡ true) × (j ≡ k → ⊥)) [
      | true ↦ λ is blocked. absurd (cc blocked)
      | false ↦ λ is blocked. (blocked, λ same. differ (sym (subst (λ x. is_blocked_by x b ≡ true) same blocked) ∙ is))
    ] refl e
  where
    differ : true ≡ false → ⊥
    differ e = cc e

pub turned_length : (k : ℕ) (p : Phase) (ms : List Method) → length (turned k p ms) ≡ length ms
turned_length k p [] = refl
turned_length zero p (m ∷ ms) = refl
turned_length (suc k) p (m ∷ ms) = ap suc (turned_length k p ms)

pub fire_length : (ls : List Live) (ms : List Method) → length (fire ls ms) ≡ length ms
fire_length ls [] = refl
fire_length ls (m ∷ ms) = ap suc (fire_length ls ms)

more_length : (ms : List Method) (m : Method) → suc (length ms) ≡ length (ms ++ m ∷ [])
more_length [] m = refl
more_length (x ∷ ms) m = ap suc (more_length ms m)

last_turned : (j k : ℕ) (p : Phase) (ms : List Method) → (j ≡ k → ⊥) → IsLast j ms → IsLast j (turned k p ms)
last_turned j k p ms ne l = record { runs = turned_other j k p ms ne ∙ l.runs; last = l.last ∙ sym (turned_length k p ms) }

last_fired : (ls : List Live) (k : ℕ) (ms : List Method) → IsLast k ms → IsLast k (fire ls ms)
last_fired ls k ms l = record { runs = phase_fired ls k ms ∙ ap (option_map (fired ls)) l.runs; last = l.last ∙ sym (fire_length ls ms) }

last_new : (k : ℕ) (ms : List Method) (m : Method) → k ≡ length ms → m.phase ≡ running → IsLast k (ms ++ m ∷ [])
last_new k ms m e is = subst (λ n. IsLast n (ms ++ m ∷ [])) (sym e) (record { runs = phase_new ms m ∙ ap Some is; last = more_length ms m })

own_last : (app : App) (number : ℕ) (C : List Moment) (st : State) (i : Item) → CanFollow app number C st i → BlocksLast st → BlocksLast (own_after st i)
own_last app number C st (item.call k message seed) f l j e =
    last_new j st.methods (record { id = id_of message; phase = running }) (eqb-true j k e ∙ call_number app number st message k message seed f.made) refl
own_last app number C st (item.refused k place) f l j e = let s = still_blocked j k st.blocking e in last_turned j k refused st.methods s.1 (l j s.0)
own_last app number C st (item.unblocked k) f l j e = l j (still_blocked j k st.blocking e).0
own_last app number C st (item.finished k place) f l j e = let s = still_blocked j k st.blocking e in last_turned j k (finished place) st.methods s.1 (l j s.0)
own_last app number C st i f l j e = l j e

pub last_after : (app : App) (number : ℕ) (C : List Moment) (st : State) (i : Item) → CanFollow app number C st i → BlocksLast st → BlocksLast (after st i)
last_after app number C st i f l j e = let own = own_after st i in last_fired own.subs j own.methods (own_last app number C st i f l j e)

pub last_from : (app : App) (number : ℕ) (C : List Moment) (st : State) (items : List Item) → FitsFrom app number C st items → BlocksLast st →
    BlocksLast (state_from st items)
last_from app number C st [] f l = l
last_from app number C st (i ∷ items) f l = last_from app number C (after st i) items f.1 (last_after app number C st i f.0 l)

-- a call that is refused runs
pub refused_runs : (C : List Moment) (st : State) (k place : ℕ) → IsRefusedAt (moment_at C place) k st.blocking → BlocksLast st →
    phase_at k st.methods ≡ Some running
refused_runs C st k place r l = (l k (refused_blocks (moment_at C place) k st.blocking r)).runs
