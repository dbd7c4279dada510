use Rattle.std.proofs.Common.{◌≡◌, map, drop}
use Rattle.session_state.specs.Calls.{as_method, has_refused}
use Rattle.session_state.proofs.calls.has_refused.Given as goal

abbrev pub invariant-loop-method : goal.invariant-loop-method
invariant-loop-method l = has_refused (map as_method (drop l.method-index l.methods)) ≡ has_refused (map as_method l.methods)
