use Rattle.std.proofs.Common.{◌≡◌, map, length}
use Rattle.session_state.specs.Calls.{as_method, fire_by, fire_from}
use Rattle.session_state.proofs.calls.fire.Given as goal

abbrev pub invariant-loop-place : goal.invariant-loop-place
invariant-loop-place l =
    (fire_from l.progress l.place (map as_method l.methods.items) ≡ fire_by l.progress (map as_method l.initial.methods.items))
    × (length (map as_method l.methods.items) ≡ length (map as_method l.initial.methods.items))
