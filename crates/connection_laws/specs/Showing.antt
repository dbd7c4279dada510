-- A subscription that is loaded, and one that goes on.
use Rattle.std.specs.Prelude.{◌≡◌, ℕ, zero, suc, ◌+◌, ◌<◌, ◌≤◌, ◌==◌, List, [], ◌∷◌, length, take, Bool, true, false, cond, ◌&&◌, ◌||◌, nat_lt}
use Rattle.std.specs.Prelude.{nat_le, Option, None, Some, is_some, Ok, Err, refl}
use Rattle.std.proofs.Common.{ap, ap₂, sym, subst, ◌∙◌, arith}
use Rattle.std.proofs.lemmas.Bool.{ne_eqb, le-leb, lt-leb, lt-ltb}
use Rattle.map_model.specs.Changes.{Leads}
use Rattle.merge_model.specs.Publishing.{Call, apply, renewed}
use Rattle.value_model.specs.Val.{Entries}
use Rattle.ejson_value.specs.declared.key.Key.{Key}
use Rattle.ejson_value.specs.Key.{key_cmp}
use Rattle.ejson_value.specs.declared.change.Publish.{Publish}
use Rattle.ejson_value.specs.declared.change.Change.{Change}
use Rattle.ejson_value.specs.Rows.{Rows}
use Rattle.ejson_value.specs.Changes.{changes_of, news_of}
use Rattle.app_model.specs.App.{App}
use Rattle.world_invariant_laws.specs.history_model.declared.entry.Entry.{Entry}
use Rattle.world_invariant_laws.specs.history_model.History.{held_at, changes_between}
use Rattle.world_invariant_laws.specs.history_model.HistoryLaws.{sorted_held, between_leads}
use Rattle.world_invariant_laws.specs.session_model.Publication.{queried}
use Rattle.world_invariant_laws.specs.session_model.Items.{Item}
use Rattle.world_invariant_laws.specs.session_model.Items as item
use Rattle.world_invariant_laws.specs.session_model.Subscriptions.{Live, cursor_of, may_load}
use Rattle.world_invariant_laws.specs.session_model.State.{State, started, own_after}
use Rattle.world_invariant_laws.specs.session_model.Moments.{Moment, rows_of, rows_at}
use Rattle.world_invariant_laws.specs.session_model.Out.{own_messages}
use Rattle.session_laws.specs.Session.{ASession, is_at_work, place_on, can_load, can_advance}
use Rattle.session_laws.specs.session_journal_laws.Resolved.{resolved}
use Rattle.session_laws.specs.Storing.{kept_as, shown_id}
use Rattle.session_laws.specs.Meaning.{Means}
use Rattle.session_laws.specs.Events.{Outcome, HasDone, Waits, IsSnapshot, Loads, IsBatch, Advances, IsFeed, Feeds, cursors_at}
use Rattle.world_invariant_laws.specs.world_model.declared.events.Act.{Act}
use Rattle.world_invariant_laws.specs.world_model.declared.events.Act.TheVariants as act
use Rattle.world_invariant_laws.specs.world_model.declared.events.Answer.TheVariants as answer
use Rattle.world_invariant_laws.specs.world_model.Store.{programs, moments}
use Rattle.world_invariant_laws.specs.world_model.Conn.{state_in, is_at_work as is_at_work_of}
use Rattle.world_invariant_laws.specs.world_model.Acts.{with_item, may_advance, enabled, outcome, does as does_of}
use Rattle.world_invariant_laws.specs.Moments.{moments_length, moment_there}
use Rattle.world_invariant_laws.specs.publication.Published.{published}
use Rattle.session_laws.specs.live_observer.Observing.{IsDifference, HaveNoLimit}
use Rattle.world_invariant_laws.specs.session_journal_laws.Longer.{IsPlace, AreWithin}
use Rattle.world_invariant_laws.specs.session_journal_laws.LongerLaws.{within_from}
use Rattle.session_laws.specs.session_journal_laws.Stands.{items_of}
use Rattle.session_laws.specs.Differences.{difference_leads}
use Rattle.connection_laws.specs.Connection.{AConnection, waiting_of, as_conn, IsConnection}
use Rattle.connection_laws.specs.Acting.{with_session, Makes}
use Rattle.connection_laws.specs.Standing.{IsMade}
use Rattle.connection_laws.specs.StandingLaws.{state_is, at_work_is, idle_of, made}
use Rattle.connection_laws.specs.OneMore.{HasOne, has_one, one_more, one_stays}

right_false : (b : Bool) → (b && false) ≡ false
right_false true = refl
right_false false = refl

true_right : (b : Bool) → (b && true) ≡ b
true_right true = refl
true_right false = refl

-- ---- what isn't enabled

pub load_past : (app : App) (history : List Entry) (old : AConnection) (sub place : ℕ) → nat_le place (length history) ≡ false →
    outcome app history (as_conn old) (act.Load sub place) ≡ answer.Idle
load_past app history old sub place past =
    idle_of app history (as_conn old) (act.Load sub place)
    (ap (λ b. is_at_work_of (as_conn old) && b && may_load sub place (state_in (as_conn old)).subs) past
    ∙ ap (λ b. b && may_load sub place (state_in (as_conn old)).subs) (right_false (is_at_work_of (as_conn old))))

module _ (app : App) (name : List ℕ) (history : List Entry) (old : AConnection) (p : IsConnection app name history old) (sub count : ℕ) where
  pub advance_unloaded : cursor_of sub old.session.carried.own.subs ≡ None → outcome app history (as_conn old) (act.Advance sub count) ≡ answer.Idle
  advance_unloaded none =
      idle_of app history (as_conn old) (act.Advance sub count)
      (ap (λ (o : Option ℕ). is_at_work_of (as_conn old) && may_advance (length history) count o)
      (ap (λ (st : State). cursor_of sub st.subs) (state_is app name history old p) ∙ none) ∙ right_false (is_at_work_of (as_conn old)))

  pub advance_past : (start : ℕ) → cursor_of sub old.session.carried.own.subs ≡ Some start → nat_le (start + count) (length history) ≡ false →
      outcome app history (as_conn old) (act.Advance sub count) ≡ answer.Idle
  advance_past start is past =
      idle_of app history (as_conn old) (act.Advance sub count)
      (ap (λ (o : Option ℕ). is_at_work_of (as_conn old) && may_advance (length history) count o)
      (ap (λ (st : State). cursor_of sub st.subs) (state_is app name history old p) ∙ is)
      ∙ (ap (λ b. is_at_work_of (as_conn old) && (nat_lt 0 count && b)) past
      ∙ (ap (λ b. is_at_work_of (as_conn old) && b) (right_false (nat_lt 0 count)) ∙ right_false (is_at_work_of (as_conn old)))))

-- ---- it is loaded, and goes on

module _ (app : App) (name : List ℕ) (history : List Entry) (old : AConnection) (p : IsConnection app name history old) (s : ASession) where
  abbrev C : List Moment
  C = moments app old.session.carried.number history

  -- an item that answers no message
  shown_made : (a : Act) (i : Item) (call : Call Key Entries) →
      resolved old.session.carried.app old.session.carried.number old.received (kept_as 0 i) ≡ i →
      does_of app history (as_conn old) a ≡ with_item app history (as_conn old) i →
      HasDone 0 i call old.session s → Waits old.session s → Means old.received C old.sent s → IsMade app name history a old (with_session s old)
  shown_made a i call reads is done waits m =
      let one : HasOne app history old.received 0 i old s = has_one app history old.received 0 i old s (shown_id i) call
      (own_after old.session.carried.own i) (own_messages [] old.session.carried.number old.session.carried.own i) done refl reads m in
      record {
        does = one_more app name history old.received 0 i old s p one old.upward (as_conn old).queue old.kept
            (ap₂ waiting_of waits.waiting waits.bytes) ∙ sym is;
        stays = one_stays app name history old.received 0 i old s p one old.upward old.kept (ap length waits.bytes ∙ (p.bytes ∙ ap length (sym waits.waiting)));
      }

  module _ (sub place : ℕ) where
    load_enabled : place ≤ length history → enabled app history (as_conn old) (act.Load sub place) ≡ can_load sub place old.session
    load_enabled le =
        ap₂ (λ (x : Bool) (st : State). x && may_load sub place st.subs)
        (ap₂ (λ (w b : Bool). w && b) (at_work_is app name history old p) (le-leb place (length history) le) ∙ true_right (is_at_work old.session))
        (state_is app name history old p)

    -- the documents of a place are those that the first entries lead to
    snapshot : (rows : Rows) → place ≤ length history → rows ≡ (held_at (programs app) history place).rows → IsSnapshot C place rows
    snapshot rows le is = record {
      within = omega (arith, le, moments_length app old.session.carried.number history);
      documents = is ∙ sym (ap rows_of (moment_there app old.session.carried.number history place le));
    }

    pub load_makes : (rows : Rows) → place ≤ length history → rows ≡ (held_at (programs app) history place).rows → (result : Outcome) →
        Loads sub place rows old.session s result → Makes app name history (act.Load sub place) old (with_session s old) result
    load_makes rows le is (Ok u) r =
        made app name history (act.Load sub place) old (with_session s old) p (can_load sub place old.session) (load_enabled le) refl refl (Ok u) r.enabled tt
        (shown_made (act.Load sub place) (item.load sub place) (apply sub (news_of r.done.answer)) refl refl r.done.done r.done.waits
        (r.keeps old.received C old.sent p.means (snapshot rows le is)))
    load_makes rows le is (Err e) r = made app name history (act.Load sub place) old (with_session s old) p (can_load sub place old.session)
        (load_enabled le) refl refl (Err e) tt r.cause tt

  -- so many entries on from where it is loaded, which the history has; a history's length is a number of 64 bits
  goes_on : (start count : ℕ) → start + count ≤ length history → length history < 18446744073709551616 →
      may_advance (length history) count (Some start) ≡ is_some (place_on (Some start) count)
  goes_on start zero le few = refl
  goes_on start (suc n) le few =
      ap₂ (λ (a b : Bool). a && b) (lt-ltb 0 (suc n) (omega arith)) (le-leb (start + suc n) (length history) le)
      ∙ ap₂ (λ (a b : Bool). is_some (cond (a || b) None (Some (start + suc n)))) (sym (ne_eqb (suc n) 0 (λ is. omega (arith, is))))
      (sym (lt-leb 18446744073709551616 (start + suc n) (omega (arith, le, few))))

  at_work_on : (w : Bool) (o : Option ℕ) → (w && is_some o) ≡ is_some (cond w o None)
  at_work_on true o = refl
  at_work_on false o = refl

  module _ (sub count : ℕ) where
    advance_enabled : (start : ℕ) → cursor_of sub old.session.carried.own.subs ≡ Some start → start + count ≤ length history →
        length history < 18446744073709551616 → enabled app history (as_conn old) (act.Advance sub count) ≡ can_advance sub count old.session
    advance_enabled start is le few =
        ap₂ (λ (w : Bool) (o : Option ℕ). w && may_advance (length history) count o) (at_work_is app name history old p)
        (ap (λ (st : State). cursor_of sub st.subs) (state_is app name history old p) ∙ is)
        ∙ (ap (λ b. is_at_work old.session && b) (goes_on start count le few)
        ∙ (at_work_on (is_at_work old.session) (place_on (Some start) count)
        ∙ ap (λ (o : Option ℕ). is_some (cond (is_at_work old.session) (place_on o count) None)) (sym is)))

    -- the changes of so many entries behind the cursor's lead on
    batch : (start : ℕ) (changes : List Change) → cursor_of sub old.session.carried.own.subs ≡ Some start → start + count ≤ length history →
        changes ≡ changes_between (programs app) history start count →
        IsBatch C (cursor_of sub old.session.carried.own.subs) start count changes
    batch start changes is le made_by =
        let n = old.session.carried.number in
        let before : rows_at C start ≡ (held_at (programs app) history start).rows = ap rows_of (moment_there app n history start (omega (arith, le))) in
        let later : rows_at C (start + count) ≡ (held_at (programs app) history (start + count)).rows =
        ap rows_of (moment_there app n history (start + count) le) in
        record {
          from = is;
          within = omega (arith, le, moments_length app n history);
          leads =
              subst (λ (cs : List Change). Leads key_cmp (changes_of cs) (rows_at C start) (rows_at C (start + count))) (sym made_by)
              (subst (λ (rows : Rows).
              Leads key_cmp (changes_of (changes_between (programs app) history start count)) rows (rows_at C (start + count))) (sym before)
              (subst (λ (rows : Rows). Leads key_cmp (changes_of (changes_between (programs app) history start count))
              (held_at (programs app) history start).rows rows) (sym later) (between_leads (programs app) history start count)));
        }

    pub advance_makes : (start : ℕ) (changes : List Change) → cursor_of sub old.session.carried.own.subs ≡ Some start → start + count ≤ length history →
        length history < 18446744073709551616 →
        changes ≡ changes_between (programs app) history start count → (result : Outcome) → Advances sub start count changes old.session s result →
        Makes app name history (act.Advance sub count) old (with_session s old) result
    advance_makes start changes is le few made_by (Ok u) r =
        made app name history (act.Advance sub count) old (with_session s old) p (can_advance sub count old.session)
        (advance_enabled start is le few) refl refl (Ok u) r.enabled tt
        (shown_made (act.Advance sub count) (item.advance sub count) (apply sub (news_of r.done.news)) refl refl r.done.done r.done.waits
        (r.keeps old.received C old.sent p.means (batch start changes is le made_by)))
    advance_makes start changes is le few made_by (Err e) r =
        made app name history (act.Advance sub count) old (with_session s old) p (can_advance sub count old.session)
        (advance_enabled start is le few) refl refl (Err e) tt r.cause tt

    fed_within : {news : List Publish} → (f : IsFeed C sub count news old.session) → f.from + count ≤ length history
    fed_within f = omega (arith, f.within, moments_length app old.session.carried.number history)

    -- it is fed
    pub feed_makes : (news : List Publish) → (f : IsFeed C sub count news old.session) → length history < 18446744073709551616 → (result : Outcome) →
        Feeds sub count news old.session s result → Makes app name history (act.Advance sub count) old (with_session s old) result
    feed_makes news f few (Ok u) r =
        made app name history (act.Advance sub count) old (with_session s old) p (can_advance sub count old.session)
        (advance_enabled f.from f.loaded (fed_within f) few) refl refl (Ok u) r.enabled tt
        (shown_made (act.Advance sub count) (item.advance sub count) (apply sub (news_of news)) refl refl r.done.done r.done.waits
        (r.keeps old.received C old.sent p.means f))
    feed_makes news f few (Err e) r =
        made app name history (act.Advance sub count) old (with_session s old) p (can_advance sub count old.session)
        (advance_enabled f.from f.loaded (fed_within f) few) refl refl (Err e) tt r.cause tt

-- ---- where it is, and what it may be fed with

place_within : (n s place : ℕ) (ls : List Live) → AreWithin n ls → cursor_of s ls ≡ Some place → place < n
place_within n s place [] w e = cc e
place_within n s place (l ∷ ls) w e =
    elim (s == l.sub) as (λ b. cond b l.cursor (cursor_of s ls) ≡ Some place → place < n) [
      | true ↦ λ c. subst (IsPlace n) c w.0
      | false ↦ λ c. place_within n s place ls w.1 c
    ] e

module _ (app : App) (name : List ℕ) (history : List Entry) (old : AConnection) (p : IsConnection app name history old) (sub start : ℕ)
    (is : cursor_of sub old.session.carried.own.subs ≡ Some start) where
  -- a subscription is loaded at a place of the history
  pub cursor_within : start ≤ length history
  cursor_within =
      let n = old.session.carried.number in
      let C = moments app n history in
      let own = old.session.carried.own in
      let within : AreWithin (length C) own.subs = subst (λ (st : State). AreWithin (length C) st.subs) (sym p.means.stands.own)
      (within_from old.session.carried.app n C started (items_of old.received old.session.carried) p.means.stands.fits tt) in
      omega (arith, place_within (length C) sub start own.subs within is, moments_length app n history)

  -- News with which what its cursors publish there becomes what they publish so many entries on feed it, where none of them has a limit.
  pub leading_feeds : (count : ℕ) (news : List Publish) → start + count ≤ length history → HaveNoLimit (cursors_at sub old.session) →
      renewed key_cmp (queried (cursors_at sub old.session) (held_at (programs app) history start).rows) (news_of news) ≡ queried
      (cursors_at sub old.session) (held_at (programs app) history (start + count)).rows →
      IsFeed (moments app old.session.carried.number history) sub count news old.session
  leading_feeds count news le none leads =
      let n = old.session.carried.number in
      let C = moments app n history in
      let cursors = cursors_at sub old.session in
      let before : rows_at C start ≡ (held_at (programs app) history start).rows = ap rows_of (moment_there app n history start (omega (arith, le))) in
      let later : rows_at C (start + count) ≡ (held_at (programs app) history (start + count)).rows =
      ap rows_of (moment_there app n history (start + count) le) in
      record {
        from = start;
        loaded = is;
        within = omega (arith, le, moments_length app n history);
        no_limit = none;
        leads = ap (λ (rows : Rows). renewed key_cmp (queried cursors rows) (news_of news)) before
            ∙ (leads ∙ sym (ap (λ (rows : Rows). queried cursors rows) later));
      }

  -- So does the difference of what they publish there and so many entries on.
  pub difference_feeds : (count : ℕ) (news : List Publish) → start + count ≤ length history → HaveNoLimit (cursors_at sub old.session) →
      IsDifference (published (cursors_at sub old.session) (held_at (programs app) history start).rows)
      (published (cursors_at sub old.session) (held_at (programs app) history (start + count)).rows) (news_of news) →
      IsFeed (moments app old.session.carried.number history) sub count news old.session
  difference_feeds count news le none d =
      leading_feeds count news le none
      (difference_leads (cursors_at sub old.session)
      (held_at (programs app) history start).rows (held_at (programs app) history (start + count)).rows (news_of news)
      (sorted_held (programs app) (take start history)) (sorted_held (programs app) (take (start + count) history)) d)
