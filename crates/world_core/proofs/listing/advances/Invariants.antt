use Rattle.std.proofs.Common.{◌≡◌, ◌++◌, map, drop}
use Rattle.connection.specs.session_state.Subs.{as_live}
use Rattle.world_rounds_laws.specs.Listing.{behind}
use Rattle.world_core.proofs.listing.advances.Given as goal

abbrev pub invariant-loop-sub : goal.invariant-loop-sub
invariant-loop-sub l = l.acts.items ++ behind l.entries (map as_live (drop l.sub-index l.subs)) ≡ behind l.entries (map as_live l.subs)
