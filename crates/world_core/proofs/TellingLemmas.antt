-- A subscription goes on by what is told of a span, or by its changes.
use Rattle.std.specs.Prelude.{◌≡◌, ℕ, ◌+◌, ◌<◌, ◌≤◌, List, length, map, false, Option, None, Some, IfSome, Result, Ok, Err, IfOk, refl}
use Rattle.std.specs.Arc.{arc_value}
use Rattle.std.proofs.Common.{ap, ap₂, sym, subst, ◌∙◌}
use Rattle.ejson_value.specs.declared.change.Publish.{Publish}
use Rattle.ejson_value.specs.Changes.{news_of}
use Rattle.known_texts.specs.Places.{Texts}
use Rattle.connection.specs.history_log.declared.batch.Batch.{Batch}
use Rattle.connection.specs.store_machine.State.{MachineState, held_after}
use Rattle.connection.specs.publication.Published.{published}
use Rattle.connection.specs.session_model.Subscriptions.{cursor_of}
use Rattle.connection.specs.session_laws.Session.{ASession}
use Rattle.connection.specs.session_laws.Events.{IsFeed}
use Rattle.connection.specs.session_state.declared.subs.Sub.{Sub}
use Rattle.connection.specs.session_model.Observers.{observer_at}
use Rattle.connection.specs.session_state.Subs.{as_live, live_of, observers_of}
use Rattle.connection.specs.world_model.declared.events.Act.TheVariants as act
use Rattle.connection.specs.world_model.declared.events.Answer.{Answer}
use Rattle.connection.specs.world_model.Store.{moments}
use Rattle.connection.specs.connection_laws.Connection.{AConnection, IsConnection}
use Rattle.connection.specs.Answers.{AnswersIn}
use Rattle.connection.specs.Storing.{AdvancesBy, FeedsBy}
use Rattle.world_news_laws.specs.multiplexer.declared.news.Lent.{Lent}
use Rattle.world_news_laws.specs.multiplexer.Leading.{IsLead}
use Rattle.world_news_laws.specs.multiplexer.Telling.{batch_of, IsSource}
use Rattle.world_news_laws.specs.multiplexer.Spans.{IsLent}
use Rattle.world_news_laws.specs.multiplexer_for_proofs.Lending.{with_texts}
use Rattle.world_news_laws.specs.multiplexer_for_proofs.LendingLaws.{known_of, known_with}
use Rattle.connection.specs.session_core.Known.{AreRight, AreLearnt}
use Rattle.world_news_laws.specs.Sources.{cursors_at_of, has_limit, IsSub}
use Rattle.world_news_laws.specs.Found.{is_source, place_is, told_feeds}
use Rattle.world_news_laws.specs.Texts.{known_are_right, learnt_are_known}
use Rattle.world_core.specs.Lending.{IsLentTo}

-- the one with the number, among those that the session lists
pub sub_is : (number : ℕ) (subs : List Sub) (sub : Sub) (s : ASession) → map as_live subs ≡ s.carried.own.subs → observers_of subs ≡ s.observers → Some (as_live sub) ≡ live_of number (map as_live subs) →
    sub.observer ≡ observer_at number (map as_live subs) (observers_of subs) → IsSub number sub s
sub_is number subs sub s live observers is observes = record { live = is ∙ ap (live_of number) live; observer = observes ∙ ap₂ (observer_at number) live observers }

module _ (m : MachineState) (x : AConnection) (p : IsConnection m.app x.own.name m.history x) (number : ℕ) (sub : Sub) (is : IsSub number sub x.session) (none : has_limit sub.cursors ≡ false) where
  pub source : IsSource (cursors_at_of m.app) sub
  source = is_source m.app x.own.name m.history x p number sub is none

  -- what is told of a span feeds it
  pub feeds : {T E : Type 0} (value : T → List Publish) (start count : ℕ) → cursor_of number x.session.carried.own.subs ≡ Some start → start + count ≤ length m.history → (result : Result (Option T) E) →
      IfOk result (λ answer. IfSome answer (λ told. IsLead (published sub.cursors (held_after m start).rows) (published sub.cursors (held_after m (start + count)).rows) (news_of (value told)))) →
      IfOk result (λ answer. IfSome answer (λ told. IsFeed (moments m.app x.session.carried.number m.history) number count (value told) x.session))
  feeds value start count placed fits (Ok None) d = tt
  feeds value start count placed fits (Ok (Some told)) d =
      told_feeds m x.own.name x number start count sub (value told) p is (sym (place_is m.app x.own.name m.history x p number sub is) ∙ placed) fits none d
  feeds value start count placed fits (Err e) d = tt

  -- a span is lent to it
  pub lends : {E : Type 0} (from until : ℕ) → cursor_of number x.session.carried.own.subs ≡ Some from → (result : Result (Option Lent) E) →
      IfOk result (λ answer. IfSome answer (IsLent m sub from until)) → IfOk result (λ answer. IfSome answer (IsLentTo m x number from until))
  lends from until placed (Ok None) lent = tt
  lends from until placed (Ok (Some l)) lent = record { sub = sub; is = is; placed = sym (place_is m.app x.own.name m.history x p number sub is) ∙ placed; unlimited = none; span = lent }
  lends from until placed (Err e) lent = tt

module _ (m : MachineState) (x : AConnection) (p : IsConnection m.app x.own.name m.history x) (number from until : ℕ) (lent : Lent) (is : IsLentTo m x number from until lent) where
  pub lent_source : IsSource (cursors_at_of m.app) is.sub
  lent_source = source m x p number is.sub is.is is.unlimited

  -- the texts that are known of it are right for the client
  pub right : (told : List Publish) → told ≡ arc_value lent.span.told → AreRight number x.session.carried.box (news_of told) lent.span.texts
  right told same =
      subst (λ (ps : List Publish). AreRight number x.session.carried.box (news_of ps) lent.span.texts) (sym same)
      (known_are_right m x.own.name x p number from is.sub is.is is.placed (arc_value lent.span.told) lent.span.texts (known_of m is.sub from until lent is.span))

  -- and what is learnt of the client is known
  pub learns : (told : List Publish) (texts : Texts) → told ≡ arc_value lent.span.told → AreLearnt number x.session.carried.box (news_of told) lent.span.texts texts → IsLent m is.sub from until (with_texts lent texts)
  learns told texts same learnt =
      known_with m is.sub from until lent is.span texts
      (learnt_are_known m x.own.name x p number from is.sub is.is is.placed (arc_value lent.span.told) lent.span.texts texts (known_of m is.sub from until lent is.span)
      (subst (λ (ps : List Publish). AreLearnt number x.session.carried.box (news_of ps) lent.span.texts texts) same learnt))

module _ (m : MachineState) (x y : AConnection) (sub count : ℕ) (few : length m.history < 18446744073709551616) where
  pub fed_in : {E : Type 0} (news : List Publish) → IsFeed (moments m.app x.session.carried.number m.history) sub count news x.session → (result : Result Answer E) → FeedsBy sub count news x y result →
      AnswersIn m.app m.history (act.Advance sub count) x y result
  fed_in news feed (Ok o) f = λ name p. f m.app name m.history feed few p
  fed_in news feed (Err e) f = f

  by_batch : {E : Type 0} (start : ℕ) → cursor_of sub x.session.carried.own.subs ≡ Some start → start + count ≤ length m.history → (result : Result Answer E) →
      (let b = batch_of m start count in AdvancesBy sub b.from b.count b.changes x y result) → AnswersIn m.app m.history (act.Advance sub count) x y result
  by_batch start placed fits (Ok o) a = λ name p. a m.app name m.history placed fits few refl p
  by_batch start placed fits (Err e) a = a

  pub advanced_in : {E : Type 0} (start : ℕ) (batch : Batch) → batch ≡ batch_of m start count → cursor_of sub x.session.carried.own.subs ≡ Some start → start + count ≤ length m.history → (result : Result Answer E) →
      AdvancesBy sub batch.from batch.count batch.changes x y result → AnswersIn m.app m.history (act.Advance sub count) x y result
  advanced_in start batch is placed fits result a = by_batch start placed fits result (subst (λ (b : Batch). AdvancesBy sub b.from b.count b.changes x y result) is a)
