use Rattle.std.proofs.Common.{◌≡◌, ◌++◌, drop}
use Rattle.reviving.specs.Run.{line_bytes}
use Rattle.reviving.proofs.acting.add_lines.Given as goal

abbrev pub invariant-loop-line : goal.invariant-loop-line
invariant-loop-line l = l.output.items ++ line_bytes (drop l.line-index l.line-items) ≡ l.initial.output.items ++ line_bytes l.line-items
