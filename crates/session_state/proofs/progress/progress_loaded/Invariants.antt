use Rattle.std.proofs.Common.{◌≡◌, map, drop, cond}
use Rattle.session_model.specs.Subscriptions.{loaded}
use Rattle.session_state.specs.Subs.{as_live}
use Rattle.session_state.specs.Progress.{nowhere, progress_with}
use Rattle.session_state.proofs.progress.progress_loaded.Given as goal

abbrev pub invariant-loop-sub : goal.invariant-loop-sub
invariant-loop-sub l = let rest = map as_live (drop l.sub-index l.subs) in progress_with l.progress (cond l.is_found rest (loaded l.number l.at rest)) ≡ progress_with nowhere (loaded l.number l.at (map as_live l.subs))
