-- What is learnt of a call.
use Rattle.std.proofs.Common.{◌≡◌, ℕ, zero, suc, List, [], ◌∷◌, length, map, Bool, true, false, Option, Some, None, refl, ap, sym, subst, ◌∙◌, arith}
use Rattle.std.specs.Prelude.{◌||◌, ◌&&◌, is_some, option_map, IfSome}
use Rattle.std.proofs.lemmas.Bool.{eqb-true}
use Rattle.std.proofs.lemmas.List.{append-nil}
use Rattle.merge_model.specs.Publishing.{apply}
use Rattle.ejson_value.specs.declared.fault.Fault.{Fault}
use Rattle.ddp_messages.specs.ServerMessage.{ServerMessage}
use Rattle.program_steps.specs.declared.outcome.Status.{Status}
use Rattle.program_steps.specs.Runs.{End}
use Rattle.method_queue.specs.Queue.{Queue, other_than}
use Rattle.ddp_messages.specs.Texts.{server_text}
use Rattle.session_core.specs.session_model.Items.{Item}
use Rattle.session_core.specs.session_model.Methods.{Phase, running, Method, Blocking, freed, is_blocked_by, phase_at, id_at}
use Rattle.session_core.specs.session_model.State.{own_after}
use Rattle.session_core.specs.session_model.Out.{refused_with, all_refused_with}
use Rattle.session_core.specs.session_state.Own.{as_state, stepped, watch_after}
use Rattle.session_core.specs.session_state.Subs.{observers_of}
use Rattle.session_core.specs.declared.adding.Addition.{Addition}
use Rattle.session_core.specs.session_laws.Storing.{kept_as}
use Rattle.session_core.specs.session_laws.Session.{ASession, is_full, is_at_work, is_running, can_learn, can_refuse}
use Rattle.session_core.specs.session_laws.Events.{HasLearnt}
use Rattle.session_core.specs.declared.inner.Inner.{Inner}
use Rattle.session_core.specs.Kept.{seen, IsKept}
use Rattle.session_core.specs.Adding.{IsAddedTo}
use Rattle.session_core.proofs.Keeping.{HasMoved, HasStayed, has_said, kept_after, waits_alike, stays_then}
use Rattle.session_core.proofs.Queues.{other_freed}

-- ---- what the tests tell

first : (a b : Bool) → (a && b) ≡ true → a ≡ true
first true b e = refl
first false b e = e

second : (a b : Bool) → (a && b) ≡ true → b ≡ true
second true b e = e
second false true e = refl
second false false e = e

runs_by : (p : Option Phase) → is_running p ≡ true → p ≡ Some running
runs_by (Some running) e = refl
runs_by p e = cc e

pub runs : (k : ℕ) (status : Status) (s : ASession) → can_learn k status s ≡ true → phase_at k s.carried.own.methods ≡ Some running
runs k status s can = runs_by (phase_at k s.carried.own.methods) (first (is_running (phase_at k s.carried.own.methods)) _ (second (is_at_work s) _ can))

blocks_by : (o : Option End) (unblocked blocks : Bool) → o ≡ None → (is_some o || (unblocked && blocks)) ≡ true → blocks ≡ true
blocks_by None unblocked blocks is e = second unblocked blocks e
blocks_by (Some end) unblocked blocks is e = cc is

pub blocks : (k : ℕ) (status : Status) (s : ASession) → status.ended ≡ None → can_learn k status s ≡ true → is_blocked_by k s.carried.own.blocking ≡ true
blocks k status s none can =
    blocks_by status.ended status.unblocked (is_blocked_by k s.carried.own.blocking) none (second (is_running (phase_at k s.carried.own.methods)) _ (second (is_at_work s) _ can))

pub refused_blocks : (k : ℕ) (s : ASession) → can_refuse k s ≡ true → is_blocked_by k s.carried.own.blocking ≡ true
refused_blocks k s can = second (is_at_work s) _ can

-- the call that blocks runs
pub refused_runs : (k : ℕ) (s : ASession) → can_refuse k s ≡ true → IfSome s.carried.own.blocking (λ b. phase_at b.k s.carried.own.methods ≡ Some running) → phase_at k s.carried.own.methods ≡ Some running
refused_runs k s can r = by s.carried.own.blocking (refused_blocks k s can) r
  where
    by : (b : Option Blocking) → is_blocked_by k b ≡ true → IfSome b (λ b. phase_at b.k s.carried.own.methods ≡ Some running) → phase_at k s.carried.own.methods ≡ Some running
    by None e r = cc e
    by (Some b) e r = subst (λ n. phase_at n s.carried.own.methods ≡ Some running) (sym (eqb-true k b.k e)) r

-- a call that runs has an id
pub has_id : (k : ℕ) (ms : List Method) → phase_at k ms ≡ Some running → id_at k ms ≡ [] → ⊥
has_id k [] p e = cc p
has_id zero (m ∷ ms) p e = cc e
has_id (suc k) (m ∷ ms) p e = has_id k ms p e

pub words_refused : (fault : Fault) (id : List ℕ) (ids : List (List ℕ)) → id ∷ [] ≡ ids → refused_with fault id ≡ all_refused_with fault ids
words_refused fault id ids e = sym (append-nil (refused_with fault id)) ∙ ap (all_refused_with fault) e

-- ---- what becomes of the session

module _ (a : Addition) (old mid new : Inner) (d : IsAddedTo a (apply 0 []) old mid) (m : HasMoved mid new) (s : HasStayed mid new) where
  pub learnt : (i : Item) (words : List ServerMessage) → a.item ≡ kept_as 0 i → a.id ≡ None → stepped a.step (as_state old.parts.own) ≡ own_after (as_state old.parts.own) i → a.words.items ≡ map server_text words →
      watch_after a.step old.parts.own ≡ observers_of old.parts.own.subs.items → observers_of new.parts.own.subs.items ≡ observers_of mid.parts.own.subs.items → HasLearnt i words (seen old) (seen new)
  learnt i words item id does says still watch = record {
    added = has_said a (apply 0 []) old mid new d m (kept_as 0 i) None (own_after (as_state old.parts.own) i) words item id does says;
    waits = waits_alike old new (stays_then old mid new d.stays s);
    observers = watch ∙ (d.gained.observers ∙ still);
  }

  pub learnt_kept : (k : ℕ) → IsKept old → is_full (seen old) ≡ false → new.queue.blocks ≡ other_than mid.queue.blocks k → (stepped a.step (as_state old.parts.own)).blocking ≡ freed k (as_state old.parts.own).blocking → IsKept new
  learnt_kept k kept room blocks frees =
      let t = stays_then old mid new d.stays s in
      kept_after a (apply 0 []) old mid new d m kept room t.limit (omega (arith, t.taken, kept.taken, ap length t.waiting)) (ap length t.places ∙ (kept.places ∙ sym (ap length t.waiting)))
      (blocks ∙ (ap (λ (q : Queue). other_than q.blocks k) d.stays.queue ∙ (ap (λ (o : Option ℕ). other_than o k) kept.blocks ∙ (other_freed k (as_state old.parts.own).blocking ∙ sym (ap (option_map (λ (b : Blocking). b.k)) frees)))))
