use Rattle.std.proofs.Common.{◌≡◌, map, drop}
use Rattle.session_state.specs.Subs.{as_live, place_from}
use Rattle.session_state.proofs.subs.place_of.Given as goal

abbrev pub invariant-loop-place : goal.invariant-loop-place
invariant-loop-place l = place_from l.place l.number (map as_live (drop l.place l.subs)) ≡ place_from 0 l.number (map as_live l.subs)
