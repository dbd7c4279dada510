use Rattle.std.proofs.Common.{◌≡◌, ◌++◌, map, drop}
use Rattle.session_state.specs.Subs.{as_live}
use Rattle.session_state.specs.Work.{cursors_in, as_place}
use Rattle.session_state.proofs.tasks.cursors.Given as goal

abbrev pub invariant-loop-sub : goal.invariant-loop-sub
invariant-loop-sub l = map as_place l.cursors.items ++ cursors_in (map as_live (drop l.sub-index l.subs)) ≡ cursors_in (map as_live l.subs)
