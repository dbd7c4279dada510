use Rattle.std.proofs.Common.{take}
use Rattle.session_state.specs.Journal.{runs}
use Rattle.session_core.specs.Lines.{lines_of}
use Rattle.connection.specs.Printed.{Prints}
use Rattle.connection.proofs.PrintingLemmas.{lines_in}
use Rattle.connection.proofs.lines.push_all.Given as goal

abbrev pub invariant-loop-at : goal.invariant-loop-at
invariant-loop-at l = Prints l.session l.sent (lines_in (take l.at (runs (lines_of l.session)))) (record { items = 0; texts = 0 }) l.place l.fn.lines l.lines
