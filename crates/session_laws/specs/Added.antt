-- A session with one more item that answers no text.
use Rattle.std.specs.Prelude.{◌≡◌, ℕ, List, [], ◌∷◌, ◌++◌, false, None}
use Rattle.std.proofs.Common.{ap, sym, subst, ◌∙◌}
use Rattle.merge_model.specs.Publishing.{Call, shown}
use Rattle.value_model.specs.Val.{Entries}
use Rattle.ejson_value.specs.declared.key.Key.{Key}
use Rattle.ejson_value.specs.Key.{key_cmp}
use Rattle.ddp_messages.specs.ClientMessage.{ClientMessage}
use Rattle.ddp_messages.specs.ServerMessage.{ServerMessage}
use Rattle.session_model.specs.Items.{Item, handled_by}
use Rattle.session_model.specs.State.{State, own_after, after, state_of}
use Rattle.session_model.specs.Moments.{Moment}
use Rattle.session_model.specs.Shown.{shown_in, calls_of}
use Rattle.session_model.specs.Out.{own_messages}
use Rattle.session_model.specs.Fits.{CanFollow}
use Rattle.session_model.specs.Answering.{is_at_once}
use Rattle.session_journal_laws.specs.Resolved.{resolved, IsPlaced}
use Rattle.session_journal_laws.specs.Stands.{items_of}
use Rattle.session_journal_laws.specs.RelationEvents.{later_stands}
use Rattle.session_laws.specs.Session.{ASession}
use Rattle.session_laws.specs.Adding.{HasAdded}
use Rattle.session_laws.specs.Storing.{kept_as, shown_id}
use Rattle.session_laws.specs.Meaning.{AreFrom, AreOpen, AreWatched, Means}
use Rattle.session_laws.specs.Events.{Waits}
use Rattle.session_laws.specs.TakingLaws.{open_after}
use Rattle.session_laws.specs.Keeping.{ids_added}

-- it answers no text and handles no message
pub record IsTextless (i : Item) : Type 0 where
  pub placed : (n : ℕ) → IsPlaced n (kept_as 0 i)
  pub later : is_at_once i ≡ false
  pub handles : handled_by i ≡ []
  pub prints : shown_id i ≡ None

module _ (taken : List (List ℕ)) (C : List Moment) (sent : List (List ℕ)) (i : Item) (call : Call Key Entries) (words : List ServerMessage)
    (old new : ASession) where
  -- The item may follow, says what the journal's item says, and the call leads to what the subscriptions show then.
  pub added_keeps : IsTextless i → Means taken C sent old → HasAdded (kept_as 0 i) (shown_id i) call (own_after old.carried.own i) words old new →
      Waits old new →
      resolved old.carried.app old.carried.number taken (kept_as 0 i) ≡ i → CanFollow old.carried.app old.carried.number C old.carried.own i →
      words ≡ own_messages C old.carried.number old.carried.own i →
      ((r : ℕ) → shown key_cmp (call ∷ calls_of C (items_of taken old.carried)) r ≡ shown_in C (after (state_of (items_of taken old.carried)) i).subs r) →
      AreWatched C new.carried.own.subs new.observers → Means taken C sent new
  added_keeps q m a w reads can says shows watched =
      let own = old.carried.own in
      let items = items_of taken old.carried in
      let handles = ap handled_by reads ∙ q.handles in
      record {
        order = m.order;
        stands = later_stands taken C sent old.carried new.carried (kept_as 0 i) call (own_after own i) words m.order m.stands a.added
            (ap is_at_once reads ∙ q.later) w.taken
            (sym (ap (λ (ms : List ClientMessage). ms ++ new.carried.waiting) handles ∙ w.waiting)) (q.placed _)
            (subst (CanFollow old.carried.app old.carried.number C own) (sym reads) can) (ap (own_after own) (sym reads))
            (says ∙ ap (own_messages C old.carried.number own) (sym reads))
            (subst (λ (j : Item). (r : ℕ) → shown key_cmp (call ∷ calls_of C items) r ≡ shown_in C (after (state_of items) j).subs r) (sym reads) shows);
        ids = ids_added taken (kept_as 0 i) i call (own_after own i) words old new a reads m.ids;
        from = subst (λ (ps : List ℕ). AreFrom taken ps new.carried.waiting) (sym w.places)
            (subst (λ (ms : List ClientMessage). AreFrom taken old.places ms) (sym w.waiting) m.from);
        connected = subst (λ (ms : List ClientMessage). AreOpen new.carried.own.connected ms) (sym w.waiting)
            (open_after own i new.carried.own.connected old.carried.waiting (ap (λ (st : State). st.connected) a.added.own) m.connected);
        watched = watched;
      }
