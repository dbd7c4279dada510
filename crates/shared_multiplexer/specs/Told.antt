-- A multiplexer with a pass, and what is lent of it.
use Rattle.std.specs.Prelude.{ℕ, List}
use Rattle.app_model.specs.App.{App}
use Rattle.history_model.specs.declared.entry.Entry.{Entry}
use Rattle.session_state.specs.declared.subs.Sub.{Sub}
use Rattle.world_news_laws.specs.multiplexer.declared.news.Lent.{Lent}
use Rattle.world_news_laws.specs.multiplexer.Telling.{ANews, AreTold, IsSource}
use Rattle.world_news_laws.specs.multiplexer.Spans.{IsLent}
use Rattle.world_news_laws.specs.Sources.{cursors_at_of}
use Rattle.shared_store.specs.Store.{over}

-- what is kept, and the list of the pass
pub record AHeldNews : Type 0 where
  pub news : ANews
  pub list : List Entry

-- each answer that is kept is that of the list
abbrev pub AreTheirs : App → AHeldNews → Type 0
AreTheirs app h = AreTold (cursors_at_of app) (over app h.list) h.news

-- the span was lent of the list's entries to a subscription without a limited cursor
pub record WasLent (app : App) (list : List Entry) (lent : Lent) : Type 0 where
  pub sub : Sub
  pub from : ℕ
  pub until : ℕ
  pub source : IsSource (cursors_at_of app) sub
  pub is : IsLent (over app list) sub from until lent
