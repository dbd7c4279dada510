-- A session's live subscriptions are sources of its application's news.
use Rattle.std.specs.Prelude.{◌≡◌, ℕ, ◌+◌, ◌≤◌, ◌==◌, List, [], ◌∷◌, map, Bool, true, false, cond, ◌||◌, Option, None, Some, IfSome, is_some}
use Rattle.std.specs.Prelude.{unwrap_or, length, take, refl}
use Rattle.std.specs.List.{All}
use Rattle.std.proofs.Common.{ap, sym, subst, ◌∙◌}
use Rattle.std.proofs.lemmas.List.Elements.{All-from_recursion}
use Rattle.map_model.specs.Maps.{at, IsSorted}
use Rattle.map_model.specs.MapLaws.{same_maps}
use Rattle.merge_model.specs.Publishing.{renewed}
use Rattle.value_model.specs.Val.{Entries}
use Rattle.ejson_value.specs.Key.{key_cmp, key_order}
use Rattle.ejson_value.specs.Rows.{Rows}
use Rattle.ejson_value.specs.declared.change.Publish.{Publish}
use Rattle.ejson_value.specs.Changes.{news_of}
use Rattle.app_model.specs.App.{App}
use Rattle.connection_laws.specs.history_model.declared.entry.Entry.{Entry}
use Rattle.connection_laws.specs.history_model.History.{held_at}
use Rattle.connection_laws.specs.history_model.HistoryLaws.{sorted_held}
use Rattle.connection_laws.specs.publication.Cursors.{ACursors}
use Rattle.connection_laws.specs.publication.Published.{published}
use Rattle.connection_laws.specs.live_observer.Observing.{AnObserver, cursors_of, HaveNoLimit}
use Rattle.connection_laws.specs.store_machine.State.{MachineState, programs, held_after}
use Rattle.connection_laws.specs.session_model.Publication.{queried}
use Rattle.connection_laws.specs.session_model.Subscriptions.{Live, of_sub, cursor_of}
use Rattle.connection_laws.specs.session_model.State.{State}
use Rattle.connection_laws.specs.session_model.Moments.{Moment}
use Rattle.connection_laws.specs.session_journal_laws.PublicationLaws.{sorted_queried, at_queried}
use Rattle.connection_laws.specs.session_journal_laws.Resolved.{cursors_in}
use Rattle.connection_laws.specs.session_journal_laws.Stands.{items_of}
use Rattle.session_state.specs.declared.subs.Sub.{Sub}
use Rattle.session_core.specs.session_model.Observers.{observer_at}
use Rattle.session_state.specs.Subs.{as_live, live_of, observers_of}
use Rattle.connection_laws.specs.session_laws.Session.{ASession}
use Rattle.connection_laws.specs.session_laws.Meaning.{IsWatched, AreWatched, Means}
use Rattle.connection_laws.specs.session_laws.Differences.{sorted_renewed, renewed_at}
use Rattle.connection_laws.specs.session_laws.Events.{IsFeed, cursors_at}
use Rattle.connection_laws.specs.world_model.Store.{moments}
use Rattle.connection_laws.specs.Showing.{leading_feeds}
use Rattle.connection_laws.specs.Connection.{AConnection, IsConnection}
use Rattle.multiplexer.specs.Leading.{News, IsLead}
use Rattle.world_news_laws.specs.Sources.{IsMadeBy, AreMadeBy, has_limit, AreSubs, IsSub, IsSourceOf, AreSourcesOf}
use Rattle.world_news_laws.specs.MadeLaws.{journal_made}

-- ---- limits

neither : (a b : Bool) → (a || b) ≡ false → (a ≡ false) × (b ≡ false)
neither false b e = (refl, e)
neither true b e = cc e

none_of : (o : Option ℕ) → is_some o ≡ false → o ≡ None
none_of None e = refl
none_of (Some n) e = cc e

pub unlimited : (cursors : ACursors) → has_limit cursors ≡ false → HaveNoLimit cursors
unlimited [] e = tt
unlimited (c ∷ cursors) e = let both = neither (is_some c.limit) (has_limit cursors) e in (none_of c.limit both.0, unlimited cursors both.1)

pub passes : (cursors : ACursors) → HaveNoLimit cursors → has_limit cursors ≡ false
passes [] none = refl
passes (c ∷ cursors) none = ap (λ (o : Option ℕ). is_some o || has_limit cursors) none.0 ∙ passes cursors none.1

-- ---- one subscription

-- an observer that there is has the cursors
watches : (C : List Moment) (l : Live) (cursor : Option ℕ) (o : Option AnObserver) → IsWatched C l cursor o →
    IfSome o (λ (x : AnObserver). cursors_of x ≡ l.cursors)
watches C l None o w = subst (λ (x : Option AnObserver). IfSome x (λ (y : AnObserver). cursors_of y ≡ l.cursors)) (sym w) tt
watches C l (Some place) None w = tt
watches C l (Some place) (Some observer) w = w.cursors

source : (app : App) (C : List Moment) (sub : Sub) → IsMadeBy app (as_live sub) → IsWatched C (as_live sub) sub.cursor sub.observer → IsSourceOf app sub
source app C sub made watched none = record {
  cursors = sym (ap cursors_in made);
  no_limit = unlimited sub.cursors none;
  observer = watches C (as_live sub) sub.cursor sub.observer watched;
}

sources : (app : App) (C : List Moment) (subs : List Sub) → AreMadeBy app (map as_live subs) → AreWatched C (map as_live subs) (observers_of subs) →
    AreSourcesOf app subs
sources app C [] made watched = tt
sources app C (sub ∷ subs) made watched = (source app C sub made.0 watched.0, sources app C subs made.1 watched.1)

-- ---- the one with a number

module _ (app : App) (C : List Moment) (number : ℕ) (sub : Sub) where
  found : (ls : List Live) (os : List (Option AnObserver)) → AreMadeBy app ls → AreWatched C ls os → Some (as_live sub) ≡ live_of number ls →
      sub.observer ≡ observer_at number ls os →
      IsMadeBy app (as_live sub) × IsWatched C (as_live sub) sub.cursor sub.observer
  found [] os made watched is observes = cc is
  found (l ∷ ls) [] made watched is observes = absurd watched
  found (l ∷ ls) (o ∷ os) made watched is observes =
      elim (number == l.sub) as
      (λ b. Some (as_live sub) ≡ cond b (Some l) (live_of number ls) → sub.observer ≡ cond b o (observer_at number ls os) →
      IsMadeBy app (as_live sub) × IsWatched C (as_live sub) sub.cursor sub.observer) [
        | true ↦ λ e q. this l o made.0 watched.0 e q
        | false ↦ λ e q. found ls os made.1 watched.1 e q
      ] is observes
    where
      this : (l : Live) (o : Option AnObserver) → IsMadeBy app l → IsWatched C l l.cursor o → Some (as_live sub) ≡ Some l → sub.observer ≡ o →
          IsMadeBy app (as_live sub) × IsWatched C (as_live sub) sub.cursor sub.observer
      this l o made watched e q =
          let same : l ≡ as_live sub = cc e in
          (subst (IsMadeBy app) same made, subst (λ (x : Live). IsWatched C x x.cursor sub.observer) same (subst (IsWatched C l l.cursor) (sym q) watched))

-- what is said of it
of_found : {A : Type 0} (f : Live → A) (otherwise : A) (number : ℕ) (l : Live) (ls : List Live) → Some l ≡ live_of number ls →
    of_sub f otherwise number ls ≡ f l
of_found f otherwise number l [] is = cc is
of_found f otherwise number l (x ∷ ls) is =
    elim (number == x.sub) as (λ b. Some l ≡ cond b (Some x) (live_of number ls) → cond b (f x) (of_sub f otherwise number ls) ≡ f l) [
      | true ↦ λ e. ap f (this e)
      | false ↦ λ e. of_found f otherwise number l ls e
    ] is
  where
    this : Some l ≡ Some x → x ≡ l
    this e = cc e

-- ---- what leads

-- news that lead from what cursors publish of some documents to what they publish of others, put into the one, make the other
pub renewed_leads : (cursors : ACursors) (rows rows' : Rows) (told : News) → IsSorted key_cmp rows → IsSorted key_cmp rows' →
    IsLead (published cursors rows) (published cursors rows') told →
    renewed key_cmp (queried cursors rows) told ≡ queried cursors rows'
renewed_leads cursors rows rows' told p q d =
    let shown = queried cursors rows in
    let sorted = sorted_queried cursors rows p in
    same_maps key_order (renewed key_cmp shown told) (queried cursors rows') (sorted_renewed key_order shown told sorted)
    (sorted_queried cursors rows' q) (λ key.
    renewed_at key_order shown told key sorted d.by_key
    ∙ (ap (λ (x : Option Entries). unwrap_or (at key_cmp told key) x) (at_queried cursors rows key p)
    ∙ (d.leads key ∙ sym (at_queried cursors rows' key q))))

-- ---- of a session

module _ (app : App) (taken : List (List ℕ)) (C : List Moment) (sent : List (List ℕ)) (s : ASession) (served : s.carried.app ≡ app)
    (m : Means taken C sent s) where
  -- the cursors that its subscriptions have are those that the application makes
  pub session_made : AreMadeBy app s.carried.own.subs
  session_made =
      let k = s.carried in
      subst (λ (a : App). AreMadeBy a k.own.subs) served
      (subst (λ (st : State). AreMadeBy k.app st.subs) (sym m.stands.own) (journal_made k.app k.number C (items_of taken k) m.stands.fits))

  pub session_sources : (subs : List Sub) → AreSubs subs s → All (IsSourceOf app) subs
  session_sources subs these =
      All-from_recursion (IsSourceOf app) subs
      (sources app C subs (subst (AreMadeBy app) (sym these.live) session_made)
      (subst (λ (ls : List Live). AreWatched C ls (observers_of subs)) (sym these.live)
      (subst (AreWatched C s.carried.own.subs) (sym these.observers) m.watched)))

  pub session_source : (number : ℕ) (sub : Sub) → IsSub number sub s → IsSourceOf app sub
  session_source number sub is =
      let both = found app C number sub s.carried.own.subs s.observers session_made m.watched is.live is.observer in source app C sub both.0 both.1

module _ (number : ℕ) (sub : Sub) (s : ASession) (is : IsSub number sub s) where
  pub session_cursors : cursors_at number s ≡ sub.cursors
  session_cursors = of_found (λ (l : Live). l.cursors) [] number (as_live sub) s.carried.own.subs is.live

  pub session_place : cursor_of number s.carried.own.subs ≡ sub.cursor
  session_place = of_found (λ (l : Live). l.cursor) None number (as_live sub) s.carried.own.subs is.live

-- ---- of a connection

module _ (app : App) (name : List ℕ) (history : List Entry) (x : AConnection) (p : IsConnection app name history x) where
  abbrev C : List Moment
  C = moments app x.session.carried.number history

  -- the cursors that the session's subscriptions have are those that the application makes
  pub all_made : AreMadeBy app x.session.carried.own.subs
  all_made = session_made app x.received C x.sent x.session p.served p.means

  pub all_sources : (subs : List Sub) → AreSubs subs x.session → All (IsSourceOf app) subs
  all_sources = session_sources app x.received C x.sent x.session p.served p.means

  module _ (number : ℕ) (sub : Sub) (is : IsSub number sub x.session) where
    pub is_source : IsSourceOf app sub
    is_source = session_source app x.received C x.sent x.session p.served p.means number sub is

    pub cursors_are : cursors_at number x.session ≡ sub.cursors
    cursors_are = session_cursors number sub x.session is

    pub place_is : cursor_of number x.session.carried.own.subs ≡ sub.cursor
    place_is = session_place number sub x.session is

-- ---- what feeds it

-- news that lead from what is published there to what is published so many entries on
pub lead_feeds : (app : App) (name : List ℕ) (history : List Entry) (x : AConnection) → IsConnection app name history x → (number start count : ℕ) →
    cursor_of number x.session.carried.own.subs ≡ Some start → (news : List Publish) →
    start + count ≤ length history → HaveNoLimit (cursors_at number x.session) →
    IsLead (published (cursors_at number x.session) (held_at (programs app) history start).rows)
    (published (cursors_at number x.session) (held_at (programs app) history (start + count)).rows) (news_of news) →
    IsFeed (moments app x.session.carried.number history) number count news x.session
lead_feeds app name history x p number start count is news le none d =
    leading_feeds app name history x p number start is count news le none
    (renewed_leads (cursors_at number x.session)
    (held_at (programs app) history start).rows (held_at (programs app) history (start + count)).rows (news_of news)
    (sorted_held (programs app) (take start history)) (sorted_held (programs app) (take (start + count) history)) d)

-- What is told of a span of the history behind its place feeds it.
pub told_feeds : (m : MachineState) (name : List ℕ) (x : AConnection) (number start count : ℕ) (sub : Sub) (told : List Publish) →
    IsConnection m.app name m.history x → IsSub number sub x.session → sub.cursor ≡ Some start →
    start + count ≤ length m.history → has_limit sub.cursors ≡ false →
    IsLead (published sub.cursors (held_after m start).rows) (published sub.cursors (held_after m (start + count)).rows) (news_of told) →
    IsFeed (moments m.app x.session.carried.number m.history) number count told x.session
told_feeds m name x number start count sub told p is placed fits none d =
    let same : sub.cursors ≡ cursors_at number x.session = sym (cursors_are m.app name m.history x p number sub is) in
    lead_feeds m.app name m.history x p number start count (place_is m.app name m.history x p number sub is ∙ placed) told fits
    (subst HaveNoLimit same (unlimited sub.cursors none))
    (subst (λ (cs : ACursors). IsLead (published cs (held_after m start).rows) (published cs (held_after m (start + count)).rows) (news_of told)) same d)
