use Rattle.std.proofs.Common.{◌≡◌, map, true}
use Rattle.session_state.specs.Calls.{as_method, are_settled}
use Rattle.session_state.proofs.calls.more_settled.Given as goal

abbrev pub invariant-loop-place : goal.invariant-loop-place
invariant-loop-place l = are_settled l.place (map as_method l.methods) ≡ true
