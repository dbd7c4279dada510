use mathlib.Core.List.{IsPrefix}
use Rattle.server_connection.proofs.ending.end_runs.Given as goal

abbrev pub invariant-loop : goal.invariant-loop
invariant-loop g l = IsPrefix l.fn.pass l.pass
