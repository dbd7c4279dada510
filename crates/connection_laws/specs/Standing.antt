-- The tests of a client with its session are those of the world's definitions, and what is kept of it stays true of a longer history.
use Rattle.std.specs.Prelude.{◌≡◌, ℕ, List}
use Rattle.app_model.specs.App.{App}
use Rattle.world_invariant_laws.specs.history_model.declared.entry.Entry.{Entry}
use Rattle.world_invariant_laws.specs.world_model.declared.events.Act.{Act}
use Rattle.world_invariant_laws.specs.world_model.Acts.{does as does_of}
use Rattle.connection_laws.specs.Connection.{AConnection, as_conn, IsConnection}

-- ---- an event of the session is an act

-- what it makes of the client and its session
pub record IsMade (app : App) (name : List ℕ) (history : List Entry) (a : Act) (old new : AConnection) : Type 0 where
  pub does : as_conn new ≡ does_of app history (as_conn old) a
  pub stays : IsConnection app name history new
