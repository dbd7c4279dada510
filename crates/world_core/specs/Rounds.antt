-- What rounds leave of what is kept of a world.
use Rattle.ejson_value.specs.declared.memory.Mem.{Mem}
use Rattle.std.specs.Prelude.{◌≡◌, ℕ, List, Bool, true, false, Option, None, Some, Result, Ok, Err}
use Rattle.std.specs.Ordering.{is_le, is_lt}
use Rattle.value_model.specs.Order.{text_cmp}
use Rattle.world_core.specs.store_machine.State.{MachineState}
use Rattle.world_core.specs.world_model.declared.events.Event.TheVariants as event
use Rattle.world_core.specs.world_model.Settle.{round, is_stuck, settled}
use Rattle.world_laws.specs.World.{AWorld, as_world, IsWorld}
use Rattle.world_laws.specs.Doing.{IsPassed, IsWorker, IsStep, ActsLead}

-- the store's machine
abbrev pub machine_of : AWorld → MachineState
machine_of x = record { app = x.app; history = x.history }

-- ---- the next one

-- those from this name on are passed over up to the next one
pub record IsNextFrom (x : AWorld) (from name : List ℕ) : Type 0 where
  pub behind : is_le (text_cmp from name) ≡ true
  pub worker : IsWorker x name
  pub passed : (q : List ℕ) → is_le (text_cmp from q) ≡ true → is_lt (text_cmp q name) ≡ true → IsPassed x q

abbrev pub IsNext : AWorld → List ℕ → Option (List ℕ) → Type 0
IsNext x from None = (q : List ℕ) → is_le (text_cmp from q) ≡ true → IsPassed x q
IsNext x from (Some name) = IsNextFrom x from name

-- ---- rounds

-- some acts lead on
pub record IsLed (x y : AWorld) : Type 0 where
  pub stays : IsWorld y
  pub leads : ActsLead (as_world x) (as_world y)

-- one round; where it made nothing, nothing can be made
pub record IsRound (x y : AWorld) (made : Bool) : Type 0 where
  pub led : IsLed x y
  pub does : as_world y ≡ round (as_world x)
  pub none : made ≡ false → (as_world y ≡ as_world x) × (is_stuck (as_world y) ≡ true)

abbrev pub MakesRound : AWorld → AWorld → Result Bool Mem → Type 0
MakesRound x y (Ok made) = IsRound x y made
MakesRound x y (Err m) = IsLed x y

-- all rounds
pub record AreRounds (x y : AWorld) : Type 0 where
  pub led : IsLed x y
  pub same : settled (as_world y) ≡ settled (as_world x)
  pub stuck : is_stuck (as_world y) ≡ true

abbrev pub MakesRounds : AWorld → AWorld → Result (Unit {0}) Mem → Type 0
MakesRounds x y (Ok u) = AreRounds x y
MakesRounds x y (Err m) = IsLed x y

abbrev pub Settles : AWorld → AWorld → Result (Unit {0}) Mem → Type 0
Settles x y (Ok u) = IsStep x event.Settle y
Settles x y (Err m) = IsLed x y
