use Rattle.std.proofs.Common.{◌≡◌, map, drop}
use Rattle.session_state.specs.Subs.{as_live}
use Rattle.session_state.specs.Progress.{nowhere, progress_with}
use Rattle.session_state.proofs.progress.progress_now.Given as goal

abbrev pub invariant-loop-sub : goal.invariant-loop-sub
invariant-loop-sub l = progress_with l.progress (map as_live (drop l.sub-index l.subs)) ≡ progress_with nowhere (map as_live l.subs)
