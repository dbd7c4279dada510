-- What a store keeps to at each moment: its documents and the results of its methods are values that a message can hold.
use Rattle.std.specs.Prelude.{ℕ, ◌<◌, length, List, IfSome}
use Rattle.map_model.specs.Maps.{at, IsSorted}
use Rattle.value_model.specs.Val.{Val, Entries, object, fields_of}
use Rattle.value_model.specs.Valid.{IsValue, IsDocument}
use Rattle.ddp_messages.specs.Limits.{IsShallow}
use Rattle.ejson_value.specs.declared.key.Key.{Key}
use Rattle.ejson_value.specs.Key.{key_cmp}
use Rattle.ejson_value.specs.Rows.{Rows}
use Rattle.program_steps.specs.declared.outcome.Status.{Status}
use Rattle.program_steps.specs.Runs.{Outcome, done, failed, End}
use Rattle.session_model.specs.Moments.{Moment, moment_at}

-- a key with an id, and a document of the program of at most 32 levels
abbrev pub IsStored : Key → Entries → Type 0
IsStored key doc = (0 < length key.id) × IsDocument doc × IsShallow (object (fields_of doc))

abbrev pub AreStored : Rows → Type 0
AreStored rows = (key : Key) → IfSome (at key_cmp rows key) (IsStored key)

-- a value of the program of at most 32 levels
abbrev pub IsResult : Val → Type 0
IsResult v = IsValue v × IsShallow v

abbrev pub HasResult : Outcome → Type 0
HasResult (done value) = IfSome value IsResult
HasResult (failed fault) = Unit {0}

pub record IsKept (moment : Moment) : Type 0 where
  pub order : IsSorted key_cmp moment.rows
  pub stored : AreStored moment.rows
  pub results : (k : ℕ) → IfSome (moment.run k) (λ (status : Status). IfSome status.ended (λ (end : End). HasResult end.outcome))

abbrev pub AreKept : List Moment → Type 0
AreKept C = (place : ℕ) → IfSome (moment_at C place) IsKept
