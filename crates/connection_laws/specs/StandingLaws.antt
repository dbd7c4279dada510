-- Laws: The tests of a client with its session are those of the world's definitions, and what is kept of it stays true of a longer history.
use Rattle.std.specs.Prelude.{◌≡◌, ℕ, suc, ◌+◌, ◌==◌, List, [], ◌∷◌, ◌++◌, length, sum_by, Bool, true, false, cond, not, ◌&&◌, ◌||◌, nat_lt, nat_le}
use Rattle.std.specs.Prelude.{OnOk, IfErr, Ok, Err, refl}
use Rattle.std.proofs.Common.{ap, ap₂, sym, subst, ◌∙◌, arith}
use Rattle.std.proofs.lemmas.List.{length-map}
use Rattle.std.proofs.lemmas.List.Sums.{sum_by-cons}
use Rattle.std.proofs.lemmas.Bool.{ne_eqb}
use Rattle.ddp_messages.specs.ClientMessage.{ClientMessage}
use Rattle.app_model.specs.App.{App}
use Rattle.world_invariant_laws.specs.history_model.declared.entry.Entry.{Entry}
use Rattle.world_invariant_laws.specs.session_model.State.{State}
use Rattle.world_invariant_laws.specs.session_model.Moments.{Moment}
use Rattle.world_invariant_laws.specs.session_journal_laws.Shows.{AreInOrder}
use Rattle.session_laws.specs.session_journal_laws.Resolved.{resolved}
use Rattle.session_laws.specs.declared.fault.EventFault.TheVariants as fault
use Rattle.session_laws.specs.Session.{is_full, is_crowded, is_at_work, max_outbox, max_waiting, max_bytes, max_items, IsCause, HadRoom}
use Rattle.session_laws.specs.Meaning.{Means}
use Rattle.session_laws.specs.Events.{Outcome}
use Rattle.session_laws.specs.Longer.{new_means, longer_means}
use Rattle.world_invariant_laws.specs.world_model.declared.events.Act.{Act}
use Rattle.world_invariant_laws.specs.world_model.declared.events.Answer.TheVariants as answer
use Rattle.world_invariant_laws.specs.world_model.Store.{held_in, moments}
use Rattle.world_invariant_laws.specs.world_model.StoreLaws.{later_moments, moments-append}
use Rattle.world_invariant_laws.specs.world_model.Conn.{Waiting, Conn, new_conn, state_in, is_full as is_full_of, is_crowded as is_crowded_of}
use Rattle.world_invariant_laws.specs.world_model.Conn.{is_at_work as is_at_work_of, has_some}
use Rattle.world_invariant_laws.specs.world_model.Acts.{enabled, is_of_session, is_queue_full, outcome}
use Rattle.world_invariant_laws.specs.Moments.{moments_in_order}
use Rattle.connection_laws.specs.Connection.{AConnection, new_connection, waiting_of, as_conn, IsConnection}
use Rattle.connection_laws.specs.Acting.{Makes}
use Rattle.connection_laws.specs.Standing.{IsMade}

-- ---- a client begins, and the history grows

pub new_stays : (app : App) (name : List ℕ) (number : ℕ) (history : List Entry) → IsConnection app name history (new_connection app name number)
new_stays app name number history = record {
  stubs = refl;
  named = refl;
  served = refl;
  means = new_means app number (moments app number history) (moments_in_order app number history);
  bytes = refl;
  dropped = refl;
  kinds = tt;
}

pub new_is : (app : App) (name : List ℕ) (number : ℕ) → as_conn (new_connection app name number) ≡ new_conn number
new_is app name number = refl

pub longer_stays : (app : App) (name : List ℕ) (history more : List Entry) (x : AConnection) → IsConnection app name history x →
    IsConnection app name (history ++ more) x
longer_stays app name history more x p =
    let n = x.session.carried.number in
    let same = moments-append app n history more in
    record {
      stubs = p.stubs;
      named = p.named;
      served = p.served;
      means = subst (λ (C : List Moment). Means x.received C x.sent x.session) (sym same)
          (longer_means x.received (moments app n history) (later_moments app n (held_in app history) more) x.sent x.session
          (subst AreInOrder same (moments_in_order app n (history ++ more))) p.means);
      bytes = p.bytes;
      dropped = p.dropped;
      kinds = p.kinds;
    }

-- ---- the messages that wait

queue_length : (ms : List ClientMessage) (bytes : List ℕ) → length bytes ≡ length ms → length (waiting_of ms bytes) ≡ length ms
queue_length [] bytes e = refl
queue_length (m ∷ ms) [] e = cc e
queue_length (m ∷ ms) (n ∷ bytes) e = let rest : length bytes ≡ length ms = omega (arith, e) in ap suc (queue_length ms bytes rest)

queue_bytes : (ms : List ClientMessage) (bytes : List ℕ) → length bytes ≡ length ms →
    sum_by (λ (w : Waiting). w.bytes) (waiting_of ms bytes) ≡ sum_by (λ (n : ℕ). n) bytes
queue_bytes [] [] e = refl
queue_bytes [] (n ∷ bytes) e = cc e
queue_bytes (m ∷ ms) [] e = cc e
queue_bytes (m ∷ ms) (n ∷ bytes) e = let rest : length bytes ≡ length ms = omega (arith, e) in
    sum_by-cons (λ (w : Waiting). w.bytes) (record { message = m; bytes = n }) (waiting_of ms bytes)
    ∙ (ap (λ s. n + s) (queue_bytes ms bytes rest) ∙ sym (sum_by-cons (λ (k : ℕ). k) n bytes))

queue_some : (ms : List ClientMessage) (bytes : List ℕ) → length bytes ≡ length ms → has_some (waiting_of ms bytes) ≡ not (length ms == 0)
queue_some [] bytes e = refl
queue_some (m ∷ ms) [] e = cc e
queue_some (m ∷ ms) (n ∷ bytes) e = ap not (sym (ne_eqb (suc (length ms)) 0 (λ is. omega (arith, is))))

pub queue_more : (ms : List ClientMessage) (bytes : List ℕ) (m : ClientMessage) (n : ℕ) → length bytes ≡ length ms →
    waiting_of (ms ++ m ∷ []) (bytes ++ n ∷ []) ≡ waiting_of ms bytes ++ record { message = m; bytes = n } ∷ []
queue_more [] [] m n e = refl
queue_more [] (k ∷ bytes) m n e = cc e
queue_more (l ∷ ms) [] m n e = cc e
queue_more (l ∷ ms) (k ∷ bytes) m n e = let rest : length bytes ≡ length ms = omega (arith, e) in ap
    (λ (ws : List Waiting). record { message = l; bytes = k } ∷ ws) (queue_more ms bytes m n rest)

-- ---- tests

pub and_assoc : (a b c : Bool) → ((a && b) && c) ≡ (a && (b && c))
and_assoc true b c = refl
and_assoc false b c = refl

module _ (app : App) (name : List ℕ) (history : List Entry) (x : AConnection) (p : IsConnection app name history x) where
  -- its subscriptions and calls
  pub state_is : state_in (as_conn x) ≡ x.session.carried.own
  state_is = sym p.means.stands.own

  pub at_work_is : is_at_work_of (as_conn x) ≡ is_at_work x.session
  at_work_is =
      let room = nat_lt (length x.session.carried.outbox) max_outbox in
      ap₂ (λ (d : Bool) (st : State). not d && not st.failed && room) (sym p.dropped) state_is
      ∙ and_assoc (not x.session.dropped) (not x.session.carried.own.failed) room

  pub full_is : is_full_of (as_conn x) ≡ is_full x.session
  full_is = ap (nat_le max_items) (length-map x.session.carried.journal (resolved x.session.carried.app x.session.carried.number x.received))

  pub crowded_is : (n : ℕ) → is_crowded_of (as_conn x).queue n ≡ is_crowded x.session n
  crowded_is n =
      ap₂ (λ (messages bytes : ℕ). (max_waiting == messages) || nat_lt max_bytes (bytes + n))
      (queue_length x.session.carried.waiting x.session.bytes p.bytes) (queue_bytes x.session.carried.waiting x.session.bytes p.bytes)

  pub waits_is : has_some (as_conn x).queue ≡ not (length x.session.carried.waiting == 0)
  waits_is = queue_some x.session.carried.waiting x.session.bytes p.bytes

-- ---- what is answered

module _ (app : App) (history : List Entry) (c : Conn) (a : Act) where
  pub idle_of : enabled app history c a ≡ false → outcome app history c a ≡ answer.Idle
  idle_of off = ap
      (λ b. cond (not b) answer.Idle (cond (is_of_session a && is_full_of c) answer.JournalFull (cond (is_queue_full c a) answer.QueueFull answer.Done))) off

  enabled_of : enabled app history c a ≡ true →
      outcome app history c a ≡ cond (is_of_session a && is_full_of c) answer.JournalFull (cond (is_queue_full c a) answer.QueueFull answer.Done)
  enabled_of on = ap
      (λ b. cond (not b) answer.Idle (cond (is_of_session a && is_full_of c) answer.JournalFull (cond (is_queue_full c a) answer.QueueFull answer.Done))) on

  pub full_of : enabled app history c a ≡ true → (is_of_session a && is_full_of c) ≡ true → outcome app history c a ≡ answer.JournalFull
  full_of on full = enabled_of on ∙ ap (λ b. cond b answer.JournalFull (cond (is_queue_full c a) answer.QueueFull answer.Done)) full

  room_of : enabled app history c a ≡ true → (is_of_session a && is_full_of c) ≡ false →
      outcome app history c a ≡ cond (is_queue_full c a) answer.QueueFull answer.Done
  room_of on room = enabled_of on ∙ ap (λ b. cond b answer.JournalFull (cond (is_queue_full c a) answer.QueueFull answer.Done)) room

  pub crowded_of : enabled app history c a ≡ true → (is_of_session a && is_full_of c) ≡ false → is_queue_full c a ≡ true →
      outcome app history c a ≡ answer.QueueFull
  crowded_of on room crowded = room_of on room ∙ ap (λ b. cond b answer.QueueFull answer.Done) crowded

  pub done_of : enabled app history c a ≡ true → (is_of_session a && is_full_of c) ≡ false → is_queue_full c a ≡ false → outcome app history c a ≡ answer.Done
  done_of on room free = room_of on room ∙ ap (λ b. cond b answer.QueueFull answer.Done) free

-- ---- an event of the session is an act

-- an act of the session, whose queue has room, is answered as the event's test says
pub made : (app : App) (name : List ℕ) (history : List Entry) (a : Act) (old new : AConnection) → IsConnection app name history old → (test : Bool) →
    enabled app history (as_conn old) a ≡ test → is_of_session a ≡ true →
    is_queue_full (as_conn old) a ≡ false → (result : Outcome) → OnOk result (HadRoom test old.session) → IfErr result (IsCause test old.session) →
    OnOk result (IsMade app name history a old new) → Makes app name history a old new result
made app name history a old new p test same own free (Ok u) room cause done = record {
  can = done_of app history (as_conn old) a (same ∙ room.enabled) (ap₂ (λ x y. x && y) own (full_is app name history old p ∙ room.room)) free;
  does = done.does;
  stays = done.stays;
}
made app name history a old new p test same own free (Err fault.Idle) room cause done = idle_of app history (as_conn old) a (same ∙ cause)
made app name history a old new p test same own free (Err fault.JournalFull) room cause done =
    full_of app history (as_conn old) a (same ∙ cause.0) (ap₂ (λ x y. x && y) own (full_is app name history old p ∙ cause.1))
made app name history a old new p test same own free (Err fault.QueueFull) room cause done = absurd cause
made app name history a old new p test same own free (Err fault.Memory) room cause done = tt
