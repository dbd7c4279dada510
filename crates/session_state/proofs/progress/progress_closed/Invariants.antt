use Rattle.std.proofs.Common.{◌≡◌, map, drop}
use Rattle.session_model.specs.Subscriptions.{closed}
use Rattle.session_state.specs.Subs.{as_live}
use Rattle.session_state.specs.Progress.{nowhere, progress_with}
use Rattle.session_state.proofs.progress.progress_closed.Given as goal

abbrev pub invariant-loop-sub : goal.invariant-loop-sub
invariant-loop-sub l = progress_with l.progress (closed l.number (map as_live (drop l.sub-index l.subs))) ≡ progress_with nowhere (closed l.number (map as_live l.subs))
