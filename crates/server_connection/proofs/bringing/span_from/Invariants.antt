use Rattle.std.specs.Prelude.{◌≤◌}
use Rattle.server_connection.proofs.bringing.span_from.Given as goal

abbrev pub invariant-loop-sub : goal.invariant-loop-sub
invariant-loop-sub l = 1 ≤ l.span
