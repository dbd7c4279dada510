use Rattle.std.proofs.Common.{◌≡◌, ◌++◌, map, drop}
use Rattle.session_state.specs.Calls.{as_method, told_from}
use Rattle.session_state.proofs.progress.updated_ids.Given as goal

abbrev pub invariant-loop-place : goal.invariant-loop-place
invariant-loop-place l = l.ids ++ told_from l.progress l.ended l.place (map as_method (drop l.place l.methods)) ≡ told_from l.progress l.ended 0 (map as_method l.methods)
