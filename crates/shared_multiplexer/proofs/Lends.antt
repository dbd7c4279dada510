-- What is lent of a list's entries feeds a session with a pass, and the texts that are known of it are right for its client.
use Rattle.std.specs.Prelude.{◌≡◌, ℕ, ◌+◌, ◌≤◌, List, length, take, map, false, Option, None, Some, IfSome, Result, Ok, Err, IfOk, refl}
use Rattle.std.specs.Arc.{arc_value}
use Rattle.std.proofs.Common.{ap, ap₂, sym, subst, ◌∙◌, arith, length-append}
use mathlib.Core.List.{IsPrefix}
use Rattle.app_model.specs.App.{App}
use Rattle.ejson_value.specs.declared.change.Publish.{Publish}
use Rattle.ejson_value.specs.Rows.{Rows}
use Rattle.ejson_value.specs.Changes.{news_of}
use Rattle.history_model.specs.declared.entry.Entry.{Entry}
use Rattle.history_model.specs.History.{Held, held_at}
use Rattle.history_model.specs.HistoryLaws.{held_at-longer, sorted_held}
use Rattle.publication.specs.Cursors.{ACursors}
use Rattle.publication.specs.Published.{published}
use Rattle.live_observer.specs.Observing.{HaveNoLimit}
use Rattle.session_model.specs.Moments.{Moment, rows_of, rows_at}
use Rattle.session_model.specs.Observers.{observer_at}
use Rattle.session_model.specs.Subscriptions.{cursor_of}
use Rattle.known_texts.specs.Places.{Texts}
use Rattle.world_model.specs.Store.{moments}
use Rattle.world_invariant_laws.specs.Moments.{moment_there}
use Rattle.session_laws.specs.Session.{ASession}
use Rattle.session_laws.specs.Events.{cursors_at, Outcome}
use Rattle.session_state.specs.declared.subs.Sub.{Sub}
use Rattle.session_state.specs.Subs.{as_live, live_of, observers_of}
use Rattle.session_core.specs.Known.{AreRight, AreLearnt}
use Rattle.store_machine.specs.State.{programs, held_after}
use Rattle.world_news_laws.specs.multiplexer.Leading.{IsLead}
use Rattle.world_news_laws.specs.multiplexer.Spans.{IsLent}
use Rattle.world_news_laws.specs.multiplexer.Telling.{IsSource}
use Rattle.world_news_laws.specs.multiplexer.declared.news.Lent.{Lent}
use Rattle.world_news_laws.specs.multiplexer_for_proofs.Lending.{with_texts}
use Rattle.world_news_laws.specs.multiplexer_for_proofs.LendingLaws.{asked_leads, known_of, known_with}
use Rattle.world_news_laws.specs.Sources.{cursors_at_of, has_limit, IsSub}
use Rattle.world_news_laws.specs.Found.{unlimited, renewed_leads, session_source, session_cursors, session_place}
use Rattle.world_news_laws.specs.Texts.{SeesAlone, sees_alone, known_right, learnt_known}
use Rattle.shared_session.specs.Held.{AHeld, moments_of, IsKept}
use Rattle.shared_session.specs.Events.{Keeps, FeedsHeld}
use Rattle.shared_session.specs.Standing.{WereTold}
use Rattle.shared_store.specs.Store.{over}
use Rattle.shared_multiplexer.specs.Told.{WasLent}
use Rattle.shared_multiplexer.specs.Lending.{IsKnownTo, IsLentTo}

-- the one with the number, among those that the session lists
pub sub_is : (number : ℕ) (subs : List Sub) (sub : Sub) (s : ASession) → map as_live subs ≡ s.carried.own.subs → observers_of subs ≡ s.observers → Some (as_live sub) ≡ live_of number (map as_live subs) →
    sub.observer ≡ observer_at number (map as_live subs) (observers_of subs) → IsSub number sub s
sub_is number subs sub s live observers is observes = record { live = is ∙ ap (live_of number) live; observer = observes ∙ ap₂ (observer_at number) live observers }

pub held_source : (app : App) (h : AHeld) (number : ℕ) (sub : Sub) → IsKept app h → IsSub number sub h.session → has_limit sub.cursors ≡ false → IsSource (cursors_at_of app) sub
held_source app h number sub k is none = session_source app k.stands.taken (moments_of h) k.stands.sent h.session k.served k.stands.for number sub is none

-- it goes on standing for its texts where it learns of more of the history
pub kept_on : (app : App) (old new : AHeld) → new.session ≡ old.session → Keeps old new → IsKept app old → IsKept app new
kept_on app old new same keeps k = record {
  served = ap (λ (s : ASession). s.carried.app) same ∙ k.served;
  stands = record { taken = k.stands.taken; sent = k.stands.sent; for = keeps k.stands.taken k.stands.sent k.stands.for };
}

-- it is fed by the same
pub fed_of : (sub from count : ℕ) (told news : List Publish) (note list : List Entry) (old new : AHeld) (r : Outcome) → told ≡ news → note ≡ list → FeedsHeld sub from count told note old new r → FeedsHeld sub from count news list old new r
fed_of sub from count told news note list old new r same known fed =
    subst (λ (es : List Entry). FeedsHeld sub from count news es old new r) known (subst (λ (ps : List Publish). FeedsHeld sub from count ps note old new r) same fed)

-- a span is lent to it
pub lends : {E : Type 0} (app : App) (note : List Entry) (h : AHeld) (number from until : ℕ) (sub : Sub) → IsSub number sub h.session → sub.cursor ≡ Some from → has_limit sub.cursors ≡ false → IsPrefix note h.list → (result : Result (Option Lent) E) →
    IfOk result (λ answer. IfSome answer (IsLent (over app note) sub from until)) → IfOk result (λ answer. IfSome answer (IsLentTo app note h number from until))
lends app note h number from until sub is placed none seen (Ok None) lent = tt
lends app note h number from until sub is placed none seen (Ok (Some l)) lent =
    record { known = record { shares = record { sub = sub; is = is; placed = placed; unlimited = none }; span = lent }; seen = seen }
lends app note h number from until sub is placed none seen (Err e) lent = tt

-- a span that is known is lent to it
pub knows : {E : Type 0} (app : App) (list : List Entry) (h : AHeld) (number from until : ℕ) (sub : Sub) → IsSub number sub h.session → sub.cursor ≡ Some from → has_limit sub.cursors ≡ false → (result : Result (Option Lent) E) →
    IfOk result (λ answer. IfSome answer (IsLent (over app list) sub from until)) → IfOk result (λ answer. IfSome answer (IsKnownTo app list h number from until))
knows app list h number from until sub is placed none (Ok None) lent = tt
knows app list h number from until sub is placed none (Ok (Some l)) lent = record { shares = record { sub = sub; is = is; placed = placed; unlimited = none }; span = lent }
knows app list h number from until sub is placed none (Err e) lent = tt

-- once the session has seen the list
pub lends_known : {E : Type 0} (app : App) (list : List Entry) (old new : AHeld) (number from until : ℕ) → new.session ≡ old.session → IsPrefix list new.list → (result : Result (Option Lent) E) →
    IfOk result (λ answer. IfSome answer (IsKnownTo app list old number from until)) → IfOk result (λ answer. IfSome answer (IsLentTo app list new number from until))
lends_known app list old new number from until same seen (Ok None) known = tt
lends_known app list old new number from until same seen (Ok (Some l)) known =
    let shares = known.shares in
    record {
      known = record { shares = record { sub = shares.sub; is = subst (IsSub number shares.sub) (sym same) shares.is; placed = shares.placed; unlimited = shares.unlimited }; span = known.span };
      seen = seen;
    }
lends_known app list old new number from until same seen (Err e) known = tt

module _ (app : App) (note : List Entry) (h : AHeld) (number from count : ℕ) (lent : Lent) (k : IsKept app h) (l : IsLentTo app note h number from (from + count) lent) where
  abbrev news : List Publish
  news = arc_value lent.span.told

  abbrev sub : Sub
  sub = l.known.shares.sub

  ends : from + count ≤ length note
  ends = subst (λ n. n ≤ length note) l.known.span.asked.ends l.known.span.asked.is.within

  cursors_same : sub.cursors ≡ cursors_at number h.session
  cursors_same = sym (session_cursors number sub h.session l.known.shares.is)

  pub lent_source : IsSource (cursors_at_of app) sub
  lent_source = held_source app h number sub k l.known.shares.is l.known.shares.unlimited

  pub lent_told : WereTold app note (cursors_at number h.session) from count news
  lent_told =
      let cs = cursors_at number h.session in
      let rows = (held_at (programs app) note from).rows in
      let rows' = (held_at (programs app) note (from + count)).rows in
      record {
        within = ends;
        no_limit = subst HaveNoLimit cursors_same (unlimited sub.cursors l.known.shares.unlimited);
        lead = renewed_leads cs rows rows' (news_of news) (sorted_held (programs app) (take from note)) (sorted_held (programs app) (take (from + count) note))
            (subst (λ (x : ACursors). IsLead (published x rows) (published x rows') (news_of news)) cursors_same (asked_leads sub.cursors (over app note) from (from + count) lent.span l.known.span.asked));
      }

  -- what the client sees
  placed : cursor_of number h.session.carried.own.subs ≡ Some from
  placed = session_place number sub h.session l.known.shares.is ∙ l.known.shares.placed

  rows_are : rows_at (moments_of h) from ≡ (held_at (programs app) note from).rows
  rows_are =
      let there : from ≤ length note = omega (arith, ends) in
      let more : length note ≤ length h.list = omega (arith, ap length l.seen.1, length-append note l.seen.0) in
      let le : from ≤ length h.list = omega (arith, there, more) in
      ap rows_of (moment_there h.session.carried.app h.session.carried.number h.list from le)
      ∙ (ap (λ (a : App). (held_at (programs a) h.list from).rows) k.served
      ∙ (ap (λ (es : List Entry). (held_at (programs app) es from).rows) (sym l.seen.1) ∙ ap (λ (x : Held). x.rows) (held_at-longer (programs app) note l.seen.0 from there)))

  client_sees : SeesAlone number h.session.carried.box (published sub.cursors (held_after (over app note) from).rows)
  client_sees =
      subst (λ (cs : ACursors). SeesAlone number h.session.carried.box (published cs (held_after (over app note) from).rows)) (sym cursors_same)
      (subst (λ (rows : Rows). SeesAlone number h.session.carried.box (published (cursors_at number h.session) rows)) rows_are
      (sees_alone k.stands.taken (moments_of h) k.stands.sent h.session k.stands.for number from placed))

  pub lent_right : (told : List Publish) → told ≡ news → AreRight number h.session.carried.box (news_of told) lent.span.texts
  lent_right told same =
      subst (λ (ps : List Publish). AreRight number h.session.carried.box (news_of ps) lent.span.texts) (sym same)
      (known_right number h.session.carried.box (published sub.cursors (held_after (over app note) from).rows) client_sees (news_of news) lent.span.texts (known_of (over app note) sub from (from + count) lent l.known.span))

  pub lent_learnt : (told : List Publish) (texts : Texts) → told ≡ news → AreLearnt number h.session.carried.box (news_of told) lent.span.texts texts → WasLent app note (with_texts lent texts)
  lent_learnt told texts same learnt = record {
    sub = sub;
    from = from;
    until = from + count;
    source = lent_source;
    is = known_with (over app note) sub from (from + count) lent l.known.span texts
        (learnt_known number h.session.carried.box (published sub.cursors (held_after (over app note) from).rows) client_sees (news_of news) lent.span.texts texts (known_of (over app note) sub from (from + count) lent l.known.span)
        (subst (λ (ps : List Publish). AreLearnt number h.session.carried.box (news_of ps) lent.span.texts texts) same learnt));
  }
