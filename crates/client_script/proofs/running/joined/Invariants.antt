use Rattle.std.proofs.Common.{◌≡◌, ◌++◌, drop}
use Rattle.client_script.specs.Course.{written}
use Rattle.client_script.proofs.running.joined.Given as goal

abbrev pub invariant-loop-line : goal.invariant-loop-line
invariant-loop-line l = l.bytes.items ++ written (drop l.line-index l.line-items) ≡ written l.line-items
