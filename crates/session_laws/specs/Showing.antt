-- A subscription that is loaded, goes on or is fed keeps what a session stands for.
use Rattle.std.specs.Prelude.{◌≡◌, ℕ, zero, suc, ◌+◌, ◌<◌, List, [], ◌∷◌, length, Bool, true, false, cond, ◌&&◌, Option, Some, None, IfSome, is_some}
use Rattle.std.specs.Prelude.{option_map, refl}
use Rattle.std.proofs.Common.{ap, sym, subst, ◌∙◌, arith}
use Rattle.map_model.specs.Maps.{IsSorted}
use Rattle.merge_model.specs.Publishing.{apply, renewed, shown}
use Rattle.value_model.specs.Val.{Entries}
use Rattle.ejson_value.specs.declared.key.Key.{Key}
use Rattle.ejson_value.specs.declared.change.Change.{Change}
use Rattle.ejson_value.specs.declared.change.Publish.{Publish}
use Rattle.ejson_value.specs.Key.{key_cmp}
use Rattle.ejson_value.specs.Rows.{Rows}
use Rattle.ejson_value.specs.Changes.{news_of}
use Rattle.publication.specs.Cursors.{ACursors}
use Rattle.publication.specs.Published.{published}
use Rattle.live_observer.specs.Observing.{AnObserver, cursors_of, StandsAt, IsDifference, IsStep, carried, HaveNoLimit}
use Rattle.session_model.specs.Publication.{queried}
use Rattle.session_model.specs.Items.{Item}
use Rattle.session_model.specs.Items as item
use Rattle.session_model.specs.Subscriptions.{Live, cursor_of, may_load, loaded, advanced}
use Rattle.session_model.specs.State.{State, after, state_of}
use Rattle.session_model.specs.Moments.{Moment, rows_at}
use Rattle.session_model.specs.Shown.{shown_in, calls_of}
use Rattle.session_model.specs.Out.{own_messages}
use Rattle.session_model.specs.Fits.{MayAdvance}
use Rattle.session_journal_laws.specs.Stands.{items_of}
use Rattle.session_journal_laws.specs.RelationKeeping.{shows_news}
use Rattle.session_laws.specs.Session.{ASession, is_at_work, place_on, can_load, can_advance}
use Rattle.session_model.specs.Observers.{observers_with}
use Rattle.session_laws.specs.Meaning.{AreWatched, Means}
use Rattle.session_laws.specs.Events.{HasDone, Waits, cursors_at, observer_of, HasLoaded, KeepsLoading, Tells, HasAdvanced, IsBatch, KeepsAdvancing}
use Rattle.session_laws.specs.Events.{HasFed, IsFeed, KeepsFeeding}
use Rattle.session_laws.specs.Added.{IsTextless, added_keeps}
use Rattle.session_laws.specs.Differences.{query_leads, difference_leads}
use Rattle.session_laws.specs.Loading.{IsWatchingAt}
use Rattle.session_laws.specs.LoadingLaws.{advanced_is, shown_loaded, shown_from, shown_unloaded, watching, watched_loaded, with_same, same_cursors}

-- ---- what is enabled

right_true : (a b : Bool) → (a && b) ≡ true → b ≡ true
right_true true b e = e
right_true false b e = cc e

goes_on : (w : Bool) (o : Option ℕ) → is_some (cond w o None) ≡ true → is_some o ≡ true
goes_on true o e = e
goes_on false o e = cc e

some_way : (from count : ℕ) → is_some (place_on (Some from) count) ≡ true → 0 < count
some_way from zero e = cc e
some_way from (suc n) e = omega arith

some_on : (s : ASession) (sub from count : ℕ) → can_advance sub count s ≡ true → cursor_of sub s.carried.own.subs ≡ Some from → 0 < count
some_on s sub from count can is = some_way from count
    (ap (λ (o : Option ℕ). is_some (place_on o count)) (sym is) ∙ goes_on (is_at_work s) (place_on (cursor_of sub s.carried.own.subs) count) can)

-- ---- a subscription is loaded

load_textless : (sub place : ℕ) → IsTextless (item.load sub place)
load_textless sub place = record { placed = λ n. tt; later = refl; handles = refl; prints = refl }

module _ (sub place : ℕ) (rows : Rows) (old new : ASession) (can : can_load sub place old ≡ true) (a : HasLoaded sub place rows old new) where
  pub loaded_keeps : KeepsLoading place rows old new
  loaded_keeps taken C sent m snapshot =
      let i = item.load sub place in
      let own = old.carried.own in
      let number = old.carried.number in
      let items = items_of taken old.carried in
      let cursors = cursors_at sub old in
      let news = news_of a.answer in
      let may : may_load sub place own.subs ≡ true = right_true (is_at_work old) (may_load sub place own.subs) can in
      let sorted = subst (λ (rs : Rows). IsSorted key_cmp rs) (sym snapshot.documents) (m.order place) in
      let leads : renewed key_cmp (shown_in C own.subs sub) news ≡ shown_in C (after own i).subs sub =
      ap (λ (shows : Rows). renewed key_cmp shows news) (shown_unloaded C sub place own.subs may)
      ∙ (query_leads cursors rows a.answer sorted a.query ∙ (ap (queried cursors) snapshot.documents ∙ sym (shown_loaded C sub place own.subs))) in
      let shows : (r : ℕ) → shown key_cmp (apply sub news ∷ calls_of C items) r ≡ shown_in C (after (state_of items) i).subs r =
      shows_news C m.order items i news
      (subst (λ (st : State). renewed key_cmp (shown_in C st.subs sub) news ≡ shown_in C (after st i).subs sub) m.stands.own leads) in
      let watched : AreWatched C (loaded sub place own.subs) (observers_with sub (Some a.observer) own.subs old.observers) =
      watched_loaded C sub place a.observer own.subs old.observers m.watched a.cursors (subst (StandsAt a.observer) snapshot.documents a.stands) in
      added_keeps taken C sent i (apply sub news) (own_messages [] number own i) old new (load_textless sub place) m a.done a.waits refl
      (may, snapshot.within) refl shows
      (subst (λ (ls : List Live). AreWatched C ls new.observers) (sym (ap (λ (st : State). st.subs) a.done.added.own))
      (subst (λ (os : List (Option AnObserver)). AreWatched C (loaded sub place own.subs) os) (sym a.observers) watched))

-- ---- it goes on

advance_textless : (sub count : ℕ) → IsTextless (item.advance sub count)
advance_textless sub count = record { placed = λ n. tt; later = refl; handles = refl; prints = refl }

module _ (sub from count : ℕ) (news : List (Key × Option Entries)) (old new : ASession) (can : can_advance sub count old ≡ true)
    (is : cursor_of sub old.carried.own.subs ≡ Some from) where
  -- the news lead from what it shows to what it publishes at the later place, and its observer stands there
  gone_keeps : HasDone 0 (item.advance sub count) (apply sub news) old new → Waits old new →
      (taken : List (List ℕ)) (C : List Moment) (sent : List (List ℕ)) → Means taken C sent old → from + count < length C →
      renewed key_cmp (queried (cursors_at sub old) (rows_at C from)) news ≡ queried (cursors_at sub old) (rows_at C (from + count)) →
      AreWatched C (loaded sub (from + count) old.carried.own.subs) new.observers → Means taken C sent new
  gone_keeps done waits taken C sent m within leads watched =
      let i = item.advance sub count in
      let own = old.carried.own in
      let items = items_of taken old.carried in
      let moved : advanced sub count own.subs ≡ loaded sub (from + count) own.subs = advanced_is sub from count own.subs is in
      let on : renewed key_cmp (shown_in C own.subs sub) news ≡ shown_in C (after own i).subs sub =
      ap (λ (shows : Rows). renewed key_cmp shows news) (shown_from C sub from own.subs is)
      ∙ (leads ∙ sym (ap (λ (ls : List Live). shown_in C ls sub) moved ∙ shown_loaded C sub (from + count) own.subs)) in
      let shows : (r : ℕ) → shown key_cmp (apply sub news ∷ calls_of C items) r ≡ shown_in C (after (state_of items) i).subs r =
      shows_news C m.order items i news
      (subst (λ (st : State). renewed key_cmp (shown_in C st.subs sub) news ≡ shown_in C (after st i).subs sub) m.stands.own on) in
      let may : MayAdvance (length C) count (cursor_of sub own.subs) =
      subst (MayAdvance (length C) count) (sym is) (some_on old sub from count can is, within) in
      added_keeps taken C sent i (apply sub news) (own_messages [] old.carried.number own i) old new
      (advance_textless sub count) m done waits refl may refl shows
      (subst (λ (ls : List Live). AreWatched C ls new.observers) (sym (ap (λ (st : State). st.subs) done.added.own ∙ moved)) watched)

module _ (sub start count : ℕ) (changes : List Change) (old new : ASession) (can : can_advance sub count old ≡ true)
    (a : HasAdvanced sub count changes old new) where
  by_observer : (taken : List (List ℕ)) (C : List Moment) (sent : List (List ℕ)) → Means taken C sent old →
      IsBatch C (cursor_of sub old.carried.own.subs) start count changes → (o : Option AnObserver) → observer_of sub old ≡ o →
      IsWatchingAt C (cursors_at sub old) start o → IfSome o (Tells changes a.news a.plan) → Means taken C sent new
  by_observer taken C sent m b None e w tells = absurd w
  by_observer taken C sent m b (Some o) e w tells =
      let subs = old.carried.own.subs in
      let cursors = cursors_at sub old in
      let news = news_of a.news in
      let place = start + count in
      let rows = rows_at C start in
      let later = rows_at C place in
      let step : IsStep o rows later news a.plan = tells rows later (record { by_key = m.order start; stands = w.1; leads = b.leads }) in
      let differs : IsDifference (published cursors rows) (published cursors later) news =
      subst (λ (cs : ACursors). IsDifference (published cs rows) (published cs later) news) w.0 step.differs in
      let observers : new.observers ≡ observers_with sub (Some (carried o a.plan)) subs old.observers =
      a.observers ∙ ap (λ (x : Option AnObserver). observers_with sub (option_map (λ (y : AnObserver). carried y a.plan) x) subs old.observers) e in
      gone_keeps sub start count news old new can b.from a.done a.waits taken C sent m b.within
      (difference_leads cursors rows later news (m.order start) (m.order place) differs)
      (subst (λ (os : List (Option AnObserver)). AreWatched C (loaded sub place subs) os) (sym observers)
      (watched_loaded C sub place (carried o a.plan) subs old.observers m.watched (same_cursors o a.plan ∙ w.0) step.lands))

  pub advanced_keeps : KeepsAdvancing sub start count changes old new
  advanced_keeps taken C sent m b =
      by_observer taken C sent m b (observer_of sub old) refl (watching C sub start old.carried.own.subs old.observers m.watched b.from) a.told

-- ---- it is fed

-- an observer none of whose cursors has a limit stands at any documents
abbrev pub StandsAnywhere : AnObserver → Type 0
StandsAnywhere o = HaveNoLimit (cursors_of o) → (rows : Rows) → StandsAt o rows

module _ (sub count : ℕ) (news : List Publish) (old new : ASession) (can : can_advance sub count old ≡ true)
    (anywhere : IfSome (observer_of sub old) StandsAnywhere) (a : HasFed sub count news old new) where
  fed_by : (taken : List (List ℕ)) (C : List Moment) (sent : List (List ℕ)) → Means taken C sent old → (f : IsFeed C sub count news old) →
      (o : Option AnObserver) → observer_of sub old ≡ o →
      IsWatchingAt C (cursors_at sub old) f.from o → IfSome o StandsAnywhere → Means taken C sent new
  fed_by taken C sent m f None e w stands = absurd w
  fed_by taken C sent m f (Some o) e w stands =
      let subs = old.carried.own.subs in
      let place = f.from + count in
      let observers : new.observers ≡ observers_with sub (Some o) subs old.observers =
      a.observers ∙ (sym (with_same sub subs old.observers) ∙ ap (λ (x : Option AnObserver). observers_with sub x subs old.observers) e) in
      gone_keeps sub f.from count (news_of news) old new can f.loaded a.done a.waits taken C sent m f.within f.leads
      (subst (λ (os : List (Option AnObserver)). AreWatched C (loaded sub place subs) os) (sym observers)
      (watched_loaded C sub place o subs old.observers m.watched w.0
      (stands (subst (λ (cs : ACursors). HaveNoLimit cs) (sym w.0) f.no_limit) (rows_at C place))))

  pub fed_keeps : KeepsFeeding sub count news old new
  fed_keeps taken C sent m f =
      fed_by taken C sent m f (observer_of sub old) refl (watching C sub f.from old.carried.own.subs old.observers m.watched f.loaded) anywhere
