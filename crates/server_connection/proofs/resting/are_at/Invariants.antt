use Rattle.std.proofs.Common.{◌≡◌, map, drop}
use Rattle.session_state.specs.Subs.{as_live}
use Rattle.server_connection.specs.AtRest.{are_at}
use Rattle.server_connection.proofs.resting.are_at.Given as goal

abbrev pub invariant-loop-sub : goal.invariant-loop-sub
invariant-loop-sub l = are_at l.place (map as_live (drop l.sub-index l.subs)) ≡ are_at l.place (map as_live l.subs)
