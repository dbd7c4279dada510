-- A run ended where it says: at its end's place of the history it had ended already, and so.
use Rattle.std.specs.Prelude.{◌≡◌, ◌⊎◌, ℕ, ◌≤◌, List, length, Option, Some}
use Rattle.map_model.specs.Maps.{at}
use Rattle.world_model.specs.history_model.declared.entry.Entry.{Entry}
use Rattle.world_model.specs.history_model.History.{Programs, RunKey, run_cmp, Begun, held, held_at}

-- ---- what an entry leaves of a run

-- the run is as it was, or this is its last entry
abbrev pub IsNoted : ℕ → Option Begun → Option Begun → Type 0
IsNoted place old new = (new ≡ old) ⊎ ((b : Begun) × (new ≡ Some b) × (b.at ≡ place))

-- ---- a run is as it was at its last entry

abbrev pub Stood : Programs → List Entry → Type 0
Stood app history = (q : RunKey) (b : Begun) → at run_cmp (held app history).runs q ≡ Some b →
    (b.at ≤ length history) × (at run_cmp (held_at app history b.at).runs q ≡ Some b)
