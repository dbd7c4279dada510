use Rattle.std.proofs.Common.{◌-◌, ◌≤◌, vec_len}
use Rattle.heard_messages.specs.declared.places.TheConstants.{PLACES}
use Rattle.heard_messages.proofs.places.make_places.Given as goal

abbrev pub invariant-places : goal.invariant-places
invariant-places l = vec_len l.places ≤ PLACES

abbrev pub decreases-places : goal.decreases-places
decreases-places l = PLACES - vec_len l.places
