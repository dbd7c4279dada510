use Rattle.std.proofs.Common.{take}
use Rattle.sort_window.specs.Telling.{IsToldMore, RowsAreTold}
use Rattle.sort_window.specs.Windows.{before, after}
use Rattle.sort_window.proofs.window.Window.tell_rows.Given as goal

abbrev pub invariant-loop-held : goal.invariant-loop-held
invariant-loop-held l =
    IsToldMore (before l.self) (after l.self l.draft.changes.items) l.initial.told.entries l.told.entries
    × RowsAreTold (before l.self) (after l.self l.draft.changes.items) l.told.entries (take l.held-index l.rows)
