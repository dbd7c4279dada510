-- What an entry leaves of runs: a step begins none and leaves fewer steps to be made, and a run that was begun stays begun.
use Rattle.std.specs.Prelude.{ℕ, List, Bool, is_some}
use Rattle.app_model.specs.App.{App}
use Rattle.world_model.specs.history_model.declared.entry.Entry.{Entry}
use Rattle.world_model.specs.history_model.History.{status_in}
use Rattle.world_model.specs.Store.{held_in}

-- ---- which calls have a run

abbrev pub has_run : App → List Entry → ℕ → ℕ → Bool
has_run app history n k = is_some (status_in (held_in app history) n k)
