-- What one line of a replay does.
use Rattle.std.specs.Prelude.{◌≡◌, ◌⊎◌, ℕ, true, false, List, ◌++◌, Bool, Some, None}
use Rattle.collection_store.specs.declared.operation.Op.{Op}
use Rattle.world_core.specs.history_model.Operations.{operation_in}
use Rattle.world_core.specs.history_log.Entries.{told_operation}
use Rattle.world_core.specs.world_model.declared.events.Event.{Event}
use Rattle.world_core.specs.world_model.declared.events.Event.TheVariants as event
use Rattle.world_core.specs.world_model.World.{World}
use Rattle.world_core.specs.world_model.Events.{step, IsEvent}
use Rattle.world_core.specs.world_model.Lines.{lines_of}
use Rattle.checking.specs.Input.{is_blank}
use Rattle.replay_core.specs.Replay.{event_of, all_bytes}

-- the line is an event of an administrator, of which this operation is read
pub record IsOperation (l : List ℕ) (op : Op) : Type 0 where
  pub is_event : event_of l ≡ Some (event.Admin (told_operation l))
  pub fits : IsEvent (event.Admin (told_operation l))
  pub operation : operation_in (told_operation l) ≡ Some op

-- the line is an event, which ran, and its lines were added to the output
pub record RunsEvent (l : List ℕ) (old new : World) (before now : List ℕ) : Type 0 where
  pub is_line : is_blank l ≡ false
  pub event : Event
  pub is_event : event_of l ≡ Some event
  pub world : new ≡ step old event
  pub output : now ≡ before ++ all_bytes (lines_of old event)

-- what a line did, and whether it is of the grammar: a blank line does nothing
abbrev pub RunsLine : List ℕ → World → World → List ℕ → List ℕ → Bool → Type 0
RunsLine l old new before now true = ((is_blank l ≡ true) × (new ≡ old) × (now ≡ before)) ⊎ RunsEvent l old new before now
RunsLine l old new before now false = (is_blank l ≡ false) × (event_of l ≡ None) × (now ≡ before)
