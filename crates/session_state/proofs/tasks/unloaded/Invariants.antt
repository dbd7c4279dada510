use Rattle.std.proofs.Common.{◌≡◌, ◌++◌, map, drop}
use Rattle.session_state.specs.Subs.{as_live}
use Rattle.session_state.specs.Work.{unloaded_in}
use Rattle.session_state.proofs.tasks.unloaded.Given as goal

abbrev pub invariant-loop-sub : goal.invariant-loop-sub
invariant-loop-sub l = l.unloaded.items ++ unloaded_in (map as_live (drop l.sub-index l.subs)) ≡ unloaded_in (map as_live l.subs)
