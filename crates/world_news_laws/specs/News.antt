-- What is told beside a machine, whose history gets longer.
use Rattle.std.specs.Prelude.{◌≡◌, List, ◌++◌}
use Rattle.connection_laws.specs.history_model.declared.entry.Entry.{Entry}
use Rattle.connection_laws.specs.store_machine.State.{MachineState}
use Rattle.multiplexer.specs.Telling.{ANews, AreTold}
use Rattle.world_news_laws.specs.Sources.{cursors_at_of}

-- the answers are of the application's publications and the machine's history
abbrev pub AreNews : MachineState → ANews → Type 0
AreNews m news = AreTold (cursors_at_of m.app) m news

-- the machine has the same application, and its history goes on from there
pub record GoesOn (old new : MachineState) : Type 0 where
  pub app : new.app ≡ old.app
  pub more : List Entry
  pub history : new.history ≡ old.history ++ more
