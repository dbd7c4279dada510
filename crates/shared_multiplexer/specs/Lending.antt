-- What is lent of a multiplexer to a session with a pass.
use Rattle.std.specs.Prelude.{◌≡◌, ℕ, List, false, Some}
use mathlib.Core.List.{IsPrefix}
use Rattle.app_model.specs.App.{App}
use Rattle.history_model.specs.declared.entry.Entry.{Entry}
use Rattle.session_state.specs.declared.subs.Sub.{Sub}
use Rattle.world_news_laws.specs.multiplexer.declared.news.Lent.{Lent}
use Rattle.world_news_laws.specs.multiplexer.Spans.{IsLent}
use Rattle.world_news_laws.specs.Sources.{has_limit, IsSub}
use Rattle.shared_store.specs.Store.{over}
use Rattle.shared_session.specs.Held.{AHeld}

-- The session's subscription of this number shows the place, and none of its cursors has a limit.
pub record MayShare (h : AHeld) (number from : ℕ) : Type 0 where
  pub sub : Sub
  pub is : IsSub number sub h.session
  pub placed : sub.cursor ≡ Some from
  pub unlimited : has_limit sub.cursors ≡ false

-- The span is of the publication of the session's subscription of this number, which shows the place where the span begins.
pub record IsKnownTo (app : App) (list : List Entry) (h : AHeld) (number from until : ℕ) (lent : Lent) : Type 0 where
  pub shares : MayShare h number from
  pub span : IsLent (over app list) shares.sub from until lent

-- The span was lent to the session's subscription of this number, which shows the place where the span begins. The session has seen the list.
pub record IsLentTo (app : App) (list : List Entry) (h : AHeld) (number from until : ℕ) (lent : Lent) : Type 0 where
  pub known : IsKnownTo app list h number from until lent
  pub seen : IsPrefix list h.list
