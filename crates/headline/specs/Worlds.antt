-- The headline holds of every world that events lead to, for an application that is made of values.
use Rattle.std.specs.Prelude.{◌≡◌, List}
use Rattle.app_model.specs.App.{App}
use Rattle.world_invariant_laws.specs.history_model.declared.entry.Entry.{Entry}
use Rattle.world_invariant_laws.specs.history_model.History.{IsLegal}
use Rattle.world_values_laws.specs.Values.{AreEntries}
use Rattle.world_invariant_laws.specs.world_model.Store.{programs}

-- it is this application's, legal and made of values
pub record IsSound (first app : App) (h : List Entry) : Type 0 where
  pub same : app ≡ first
  pub legal : IsLegal (programs app) h
  pub values : AreEntries h
