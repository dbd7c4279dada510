-- What a client is asked for from outside.
use Rattle.std.specs.Prelude.{◌≡◌, ℕ, List, true, false, Result, Ok, Err}
use Rattle.app_model.specs.App.{App}
use Rattle.world_invariant_laws.specs.history_model.declared.entry.Entry.{Entry}
use Rattle.client_core.specs.declared.fault.ClientFault.{ClientFault}
use Rattle.client_core.specs.declared.fault.ClientFault.TheVariants as fault
use Rattle.world_invariant_laws.specs.world_model.Asks.{Ask, can_ask, asked}
use Rattle.connection_laws.specs.Connection.{AConnection, as_conn, IsConnection}

-- The client does what it is asked for.
pub record IsAsked (app : App) (name : List ℕ) (history : List Entry) (a : Ask) (old new : AConnection) : Type 0 where
  pub can : can_ask (as_conn old) a ≡ true
  pub does : as_conn new ≡ asked app (as_conn old) a
  pub stays : IsConnection app name history new

-- It does so where it can, and `Idle` comes where it can't. Want of memory says nothing of it
abbrev pub MakesAsked : {X : Type 0} → App → List ℕ → List Entry → Ask → AConnection → AConnection → Result X ClientFault → Type 0
MakesAsked app name history a old new (Ok x) = IsAsked app name history a old new
MakesAsked app name history a old new (Err fault.Idle) = can_ask (as_conn old) a ≡ false
MakesAsked app name history a old new (Err fault.Memory) = Unit {0}
