use Rattle.std.proofs.Common.{◌≡◌, ◌++◌, map, drop}
use Rattle.session_state.specs.Calls.{as_method}
use Rattle.session_state.specs.Work.{running_from}
use Rattle.session_state.proofs.tasks.running_behind.Given as goal

abbrev pub invariant-loop-place : goal.invariant-loop-place
invariant-loop-place l = l.running.items ++ running_from l.place (map as_method (drop l.place l.methods)) ≡ running_from 0 (map as_method l.methods)
