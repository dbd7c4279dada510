use Rattle.std.proofs.Common.{◌≡◌, ◌++◌, map, drop}
use Rattle.connection.specs.world_model.Settle.{loads}
use Rattle.connection.specs.session_state.Subs.{as_live}
use Rattle.world_core.proofs.listing.loads.Given as goal

abbrev pub invariant-loop-sub : goal.invariant-loop-sub
invariant-loop-sub l = l.acts.items ++ loads l.at (map as_live (drop l.sub-index l.subs)) ≡ loads l.at (map as_live l.subs)
