-- A span that is lent to a session's subscription.
use Rattle.std.specs.Prelude.{◌≡◌, ℕ, false, Option, Some, IfSome, Result, IfOk}
use Rattle.std.specs.Arc.{arc_value}
use Rattle.ejson_value.specs.Changes.{news_of}
use Rattle.connection.specs.publication.Published.{published}
use Rattle.connection.specs.session_state.declared.subs.Sub.{Sub}
use Rattle.connection.specs.store_machine.State.{MachineState, held_after}
use Rattle.connection.specs.session_laws.Events.{IsFeed}
use Rattle.connection.specs.world_model.Store.{moments}
use Rattle.connection.specs.connection_laws.Connection.{AConnection}
use Rattle.world_news_laws.specs.multiplexer.declared.news.Lent.{Lent}
use Rattle.world_news_laws.specs.multiplexer.Leading.{IsLead}
use Rattle.world_news_laws.specs.multiplexer.Telling.{CursorsAt, ANews, AreTold, IsSource}
use Rattle.world_news_laws.specs.multiplexer.Spans.{IsLent}
use Rattle.world_news_laws.specs.Sources.{has_limit, IsSub}

-- what is lent leads from what the subscription publishes at the one place of the history to what it publishes at the other
abbrev pub LeadsOn : MachineState → Sub → ℕ → ℕ → Lent → Type 0
LeadsOn m sub from until lent =
    IsLead (published sub.cursors (held_after m from).rows) (published sub.cursors (held_after m until).rows) (news_of (arc_value lent.span.told))

-- What is lent of the entries between the places leads from the one to the other, and all that is kept is still told of the machine's history.
pub record SpansIn {E : Type 0} (m : MachineState) (sub : Sub) (from until : ℕ) (old new : ANews) (result : Result (Option Lent) E) : Type 0 where
  pub told : (cursors_at : CursorsAt) → AreTold cursors_at m old → IsSource cursors_at sub →
      IfOk result (λ answer. IfSome answer (LeadsOn m sub from until))
  pub lent : (cursors_at : CursorsAt) → AreTold cursors_at m old → IsSource cursors_at sub → IfOk result (λ answer. IfSome answer (IsLent m sub from until))
  pub keeps : (cursors_at : CursorsAt) → AreTold cursors_at m old → IsSource cursors_at sub → AreTold cursors_at m new

-- what is lent feeds the subscription of this number over so many entries
abbrev pub FeedsSub : MachineState → AConnection → ℕ → ℕ → Lent → Type 0
FeedsSub m x number count lent = IsFeed (moments m.app x.session.carried.number m.history) number count (arc_value lent.span.told) x.session

-- The subscription with the number, none of whose cursors has a limit, shows the place where the span begins.
pub record IsLentTo (m : MachineState) (x : AConnection) (number from until : ℕ) (lent : Lent) : Type 0 where
  pub sub : Sub
  pub is : IsSub number sub x.session
  pub placed : sub.cursor ≡ Some from
  pub unlimited : has_limit sub.cursors ≡ false
  pub span : IsLent m sub from until lent
