use Rattle.std.proofs.Common.{◌≡◌, ◌++◌, drop}
use Rattle.history_log.specs.Rows.{pairs_in, document_lines}
use Rattle.history_log.proofs.rows.document_lines.Given as goal

abbrev pub invariant-loop-row : goal.invariant-loop-row
invariant-loop-row l = l.lines.items ++ document_lines (pairs_in (drop l.row-index l.rows)) ≡ document_lines (pairs_in l.rows)
