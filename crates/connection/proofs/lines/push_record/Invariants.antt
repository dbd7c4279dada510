use Rattle.std.proofs.Common.{replicate}
use Rattle.connection.specs.Printed.{Prints}
use Rattle.connection.proofs.lines.push_record.Given as goal

abbrev pub invariant-loop-turn : goal.invariant-loop-turn
invariant-loop-turn l = Prints l.session l.sent (replicate l.turn l.line) l.fn.place l.place l.fn.lines l.lines
