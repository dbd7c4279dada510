use Rattle.std.proofs.Common.{◌≡◌, ◌++◌, drop}
use Rattle.std.specs.Prelude.{flat_map}
use Rattle.generated_work.specs.Generated.{written_line}
use Rattle.generated_work.proofs.generating.put_lines.Given as goal

abbrev pub invariant-loop-line : goal.invariant-loop-line
invariant-loop-line l = l.bytes.items ++ flat_map written_line (drop l.line-index l.lines) ≡ l.initial.bytes.items ++ flat_map written_line l.lines
