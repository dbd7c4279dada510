use Rattle.std.proofs.Common.{take}
use Rattle.sort_window.specs.Telling.{IsToldMore, AreTold}
use Rattle.sort_window.specs.Windows.{before, after}
use Rattle.sort_window.proofs.window.Window.tell_changes.Given as goal

abbrev pub invariant-loop-change : goal.invariant-loop-change
invariant-loop-change l =
    IsToldMore (before l.self) (after l.self l.draft.changes.items) l.initial.told.entries l.told.entries
    × AreTold (before l.self) (after l.self l.draft.changes.items) l.told.entries (take l.change-index l.draft.changes.items)
