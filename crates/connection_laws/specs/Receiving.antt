-- A text that the session takes off its link, and a message that it handles, are the acts.
use Rattle.std.specs.Prelude.{◌≡◌, ℕ, List, [], ◌∷◌, ◌++◌, drop, length, Bool, true, false, not, ◌&&◌, ◌==◌, is_none, Ok, Err, refl}
use Rattle.std.proofs.Common.{ap, ap₂, sym, subst, ◌∙◌, arith}
use Rattle.std.proofs.lemmas.List.{length-append}
use Rattle.ddp_messages.specs.ClientMessage.{ClientMessage}
use Rattle.merge_model.specs.Publishing.{apply}
use Rattle.app_model.specs.App.{App}
use Rattle.world_invariant_laws.specs.history_model.declared.entry.Entry.{Entry}
use Rattle.world_invariant_laws.specs.session_model.Items.{Item}
use Rattle.world_invariant_laws.specs.session_model.State.{State, own_after}
use Rattle.world_invariant_laws.specs.session_model.Out.{own_messages}
use Rattle.world_invariant_laws.specs.session_model.Fits.{item_for}
use Rattle.world_invariant_laws.specs.session_model.Taking.{Taken, at_once, to_queue, taken_text, is_connected_by}
use Rattle.session_laws.specs.session_journal_laws.Resolved.{resolved}
use Rattle.session_laws.specs.session_journal_laws.ResolvedLaws.{items-more}
use Rattle.session_laws.specs.session_journal_laws.Stands.{items_of}
use Rattle.session_laws.specs.declared.fault.EventFault.TheVariants as fault
use Rattle.session_laws.specs.Session.{ASession, is_at_work, can_handle}
use Rattle.session_laws.specs.Storing.{kept_as, shown_id}
use Rattle.session_laws.specs.Meaning.{AreFrom, Means}
use Rattle.session_laws.specs.Events.{Outcome, IsTakenAs, IsAnswered, IsCrowdedOut, KeepsTaking, Takes, plain_call, Keeps, HasHandled, Handles}
use Rattle.session_laws.specs.TakingLaws.{answered_once, once_resolved}
use Rattle.session_laws.specs.Handled.{read_back}
use Rattle.world_invariant_laws.specs.world_model.declared.events.Act.TheVariants as act
use Rattle.world_invariant_laws.specs.world_model.declared.events.Answer.TheVariants as answer
use Rattle.world_invariant_laws.specs.world_model.Store.{moments}
use Rattle.world_invariant_laws.specs.world_model.Conn.{is_at_work as is_at_work_of, has_some}
use Rattle.world_invariant_laws.specs.world_model.Acts.{with_item, received_as, receives, handles, is_crowded_out, is_crowded_by, enabled}
use Rattle.world_invariant_laws.specs.world_model.Acts.{is_queue_full, outcome}
use Rattle.connection_laws.specs.Connection.{AConnection, waiting_of, as_conn, AreKeptOf, IsConnection}
use Rattle.connection_laws.specs.Acting.{with_session, taken_in, Makes}
use Rattle.connection_laws.specs.Standing.{IsMade}
use Rattle.connection_laws.specs.StandingLaws.{queue_more, and_assoc, state_is, at_work_is, full_is, crowded_is, waits_is, idle_of, full_of}
use Rattle.connection_laws.specs.StandingLaws.{crowded_of, done_of, made}
use Rattle.connection_laws.specs.OneMore.{HasOne, has_one, one_more, one_stays}

and_true : (b : Bool) → (b && true) ≡ b
and_true true = refl
and_true false = refl

and_false : (b : Bool) → (b && false) ≡ false
and_false true = refl
and_false false = refl

length_more : (ms : List ClientMessage) (bytes : List ℕ) (m : ClientMessage) (n : ℕ) → length bytes ≡ length ms →
    length (bytes ++ n ∷ []) ≡ length (ms ++ m ∷ [])
length_more ms bytes m n e = omega (arith, length-append bytes (n ∷ []), length-append ms (m ∷ []), e)

-- ---- a text is taken

module _ (app : App) (name : List ℕ) (history : List Entry) (old : AConnection) (p : IsConnection app name history old) (t : List ℕ)
    (ts : List (List ℕ)) (lies : old.upward ≡ t ∷ ts) (s : ASession) where
  -- as the session reads it
  abbrev read : Taken
  read = taken_text old.session.carried.own.connected t

  recv_enabled : enabled app history (as_conn old) act.Recv ≡ is_at_work old.session
  recv_enabled = ap₂ (λ (w : Bool) (up : List (List ℕ)). w && has_some up) (at_work_is app name history old p) lies ∙ and_true (is_at_work old.session)

  recv_crowded : is_queue_full (as_conn old) act.Recv ≡ is_crowded_out (as_conn old).queue (length t) read
  recv_crowded = ap (is_crowded_by (as_conn old)) lies
      ∙ ap (λ (st : State). is_crowded_out (as_conn old).queue (length t) (taken_text st.connected t)) (state_is app name history old p)

  same_items : items_of (old.received ++ t ∷ []) old.session.carried ≡ items_of old.received old.session.carried
  same_items = items-more old.session.carried.app old.session.carried.number old.received (t ∷ []) old.session.carried.journal p.means.stands.placed

  answered_one : (i : Item) → read ≡ at_once i → KeepsTaking t old.session s → IsAnswered i old.session s →
      HasOne app history (old.received ++ t ∷ []) old.session.carried.taken i old s
  answered_one i is keeps a =
      let o = old.session.carried in
      let connected : is_connected_by false old.received ≡ o.own.connected = p.means.stands.answers.connected
      ∙ ap (λ (st : State). st.connected) (sym p.means.stands.own) in
      let now : taken_text (is_connected_by false old.received) t ≡ at_once i = ap (λ c. taken_text c t) connected ∙ is in
      let reads : resolved o.app o.number (old.received ++ t ∷ []) (kept_as o.taken i) ≡ i =
      ap (λ n. resolved o.app o.number (old.received ++ t ∷ []) (kept_as n i)) p.means.stands.count
      ∙ once_resolved o.app o.number old.received t i (answered_once o.own.connected t i is) now in
      has_one app history (old.received ++ t ∷ []) o.taken i old s (shown_id i) (apply 0 []) (own_after o.own i)
      (own_messages [] o.number o.own i) a.done same_items reads
      (keeps old.received (moments app o.number history) old.sent p.means)

  taken_does : (x : Taken) → read ≡ x → KeepsTaking t old.session s → IsTakenAs x (length t) old.session s →
      as_conn (taken_in t ts s old) ≡ received_as app history (record (as_conn old) { upward = ts; received = old.received ++ t ∷ [] }) (length t) x
  taken_does (at_once i) is keeps a =
      one_more app name history (old.received ++ t ∷ []) old.session.carried.taken i old s p (answered_one i is keeps a) ts
      (as_conn old).queue old.kept (ap₂ waiting_of a.waiting a.bytes)
  taken_does (to_queue message) is keeps a =
      ap (λ (x : ASession). as_conn (taken_in t ts x old)) a.1
      ∙ (λ j. record (as_conn old) {
        upward = ts;
        received = old.received ++ t ∷ [];
        queue = queue_more old.session.carried.waiting old.session.bytes message (length t) p.bytes j;
        items = same_items j;
      })

  taken_stays : (x : Taken) → read ≡ x → KeepsTaking t old.session s → IsTakenAs x (length t) old.session s →
      IsConnection app name history (taken_in t ts s old)
  taken_stays (at_once i) is keeps a =
      one_stays app name history (old.received ++ t ∷ []) old.session.carried.taken i old s p (answered_one i is keeps a) ts old.kept
      (ap length a.bytes ∙ (p.bytes ∙ ap length (sym a.waiting)))
  taken_stays (to_queue message) is keeps a =
      let n = old.session.carried.number in
      let m : Means (old.received ++ t ∷ []) (moments app n history) old.sent s = keeps old.received (moments app n history) old.sent p.means in
      subst (λ (x : ASession). IsConnection app name history (taken_in t ts x old)) (sym a.1) (record {
        stubs = p.stubs;
        named = p.named;
        served = p.served;
        means = subst (λ (x : ASession). Means (old.received ++ t ∷ []) (moments app n history) old.sent x) a.1 m;
        bytes = length_more old.session.carried.waiting old.session.bytes message (length t) p.bytes;
        dropped = p.dropped;
        kinds = subst (λ (xs : List Item). AreKeptOf old.session.carried.journal xs) (sym same_items) p.kinds;
      })

  -- there is room for its message
  taken_free : (x : Taken) → IsTakenAs x (length t) old.session s → is_crowded_out (as_conn old).queue (length t) x ≡ false
  taken_free (at_once i) a = refl
  taken_free (to_queue message) a = crowded_is app name history old p (length t) ∙ a.0

  taken_crowded : (x : Taken) → IsCrowdedOut x (length t) old.session → is_crowded_out (as_conn old).queue (length t) x ≡ true
  taken_crowded (at_once i) c = absurd c
  taken_crowded (to_queue message) c = crowded_is app name history old p (length t) ∙ c

  pub recv_makes : (result : Outcome) → Takes t old.session s result → Makes app name history act.Recv old (taken_in t ts s old) result
  recv_makes (Ok u) r = record {
    can = done_of app history (as_conn old) act.Recv (recv_enabled ∙ r.enabled.enabled) (full_is app name history old p ∙ r.enabled.room)
        (recv_crowded ∙ taken_free read r.done);
    does =
        taken_does read refl r.keeps r.done
        ∙ (ap (λ (st : State). received_as app history (record (as_conn old) { upward = ts; received = old.received ++ t ∷ [] }) (length t)
        (taken_text st.connected t)) (sym (state_is app name history old p))
        ∙ ap (receives app history (as_conn old)) (sym lies));
    stays = taken_stays read refl r.keeps r.done;
  }
  recv_makes (Err fault.Idle) r = idle_of app history (as_conn old) act.Recv (recv_enabled ∙ r.cause)
  recv_makes (Err fault.JournalFull) r = full_of app history (as_conn old) act.Recv (recv_enabled ∙ r.cause.0) (full_is app name history old p ∙ r.cause.1)
  recv_makes (Err fault.QueueFull) r =
      crowded_of app history (as_conn old) act.Recv (recv_enabled ∙ r.cause.enabled) (full_is app name history old p ∙ r.cause.room)
      (recv_crowded ∙ taken_crowded read r.cause.crowded)
  recv_makes (Err fault.Memory) r = tt

-- where no text lies there, none is taken
pub recv_idle : (app : App) (history : List Entry) (old : AConnection) → old.upward ≡ [] → outcome app history (as_conn old) act.Recv ≡ answer.Idle
recv_idle app history old none = idle_of app history (as_conn old) act.Recv
    (ap (λ (up : List (List ℕ)). is_at_work_of (as_conn old) && has_some up) none ∙ and_false (is_at_work_of (as_conn old)))

-- ---- a message is handled

module _ (app : App) (name : List ℕ) (history : List Entry) (old : AConnection) (p : IsConnection app name history old) (s : ASession) where
  handle_enabled : enabled app history (as_conn old) act.Handle ≡ can_handle old.session
  handle_enabled =
      let work = is_at_work old.session in
      let waits = not (length old.session.carried.waiting == 0) in
      ap₂ (λ (x : Bool) (st : State). x && is_none st.blocking)
      (ap₂ (λ (x y : Bool). x && y) (at_work_is app name history old p) (waits_is app name history old p)) (state_is app name history old p)
      ∙ and_assoc work waits (is_none old.session.carried.own.blocking)

  handled_made : (places : List ℕ) (ms : List ClientMessage) (bytes : List ℕ) → old.session.places ≡ places → old.session.carried.waiting ≡ ms →
      old.session.bytes ≡ bytes → Keeps old.session s → HasHandled places ms old.session s →
      IsMade app name history act.Handle old (with_session s old)
  handled_made [] ms bytes ep em eb keeps h = absurd h
  handled_made (place ∷ places) [] bytes ep em eb keeps h = absurd h
  handled_made (place ∷ places) (m ∷ ms) [] ep em eb keeps h = let none : length (m ∷ ms) ≡ 0 = ap length (sym em) ∙ (sym p.bytes ∙ ap length eb) in cc none
  handled_made (place ∷ places) (m ∷ ms) (n ∷ bytes) ep em eb keeps h =
      let o = old.session.carried in
      let i = item_for o.app o.number o.own m in
      let from : AreFrom old.received (place ∷ places) (m ∷ ms) = subst (λ (ps : List ℕ). AreFrom old.received ps (m ∷ ms)) ep
      (subst (λ (xs : List ClientMessage). AreFrom old.received old.session.places xs) em p.means.from) in
      let reads : resolved o.app o.number old.received (kept_as place i) ≡ i = read_back o.app o.number old.received place o.own m from.0.waits from.0.says in
      let one : HasOne app history old.received place i old s =
      has_one app history old.received place i old s (shown_id i) (plain_call i) (own_after o.own i)
      (own_messages [] o.number o.own i) h.done refl reads (keeps old.received (moments app o.number history) old.sent p.means) in
      let waiting : s.carried.waiting ≡ ms = h.waiting ∙ ap (drop 1) em in
      let left : s.bytes ≡ bytes = h.bytes ∙ ap (drop 1) eb in
      let queue : (as_conn old).queue ≡ record { message = m; bytes = n } ∷ waiting_of ms bytes = ap₂ waiting_of em eb in
      let many : length (n ∷ bytes) ≡ length (m ∷ ms) = ap length (sym eb) ∙ (p.bytes ∙ ap length em) in
      let rest : length bytes ≡ length ms = omega (arith, many) in
      record {
        does =
            one_more app name history old.received place i old s p one old.upward (waiting_of ms bytes) old.kept (ap₂ waiting_of waiting left)
            ∙ (ap₂ (λ (a : App) (st : State). with_item app history (record (as_conn old) { queue = waiting_of ms bytes }) (item_for a o.number st m))
            p.served (sym (state_is app name history old p))
            ∙ ap (handles app history (as_conn old)) (sym queue));
        stays = one_stays app name history old.received place i old s p one old.upward old.kept (ap length left ∙ (rest ∙ ap length (sym waiting)));
      }

  pub handle_makes : (result : Outcome) → Handles old.session s result → Makes app name history act.Handle old (with_session s old) result
  handle_makes (Ok u) r =
      made app name history act.Handle old (with_session s old) p (can_handle old.session) handle_enabled refl refl (Ok u) r.enabled tt
      (handled_made old.session.places old.session.carried.waiting old.session.bytes refl refl refl r.keeps r.done)
  handle_makes (Err e) r = made app name history act.Handle old (with_session s old) p (can_handle old.session) handle_enabled refl refl (Err e) tt r.cause tt
