use Rattle.std.proofs.Common.{◌≡◌, map, drop}
use Rattle.session_model.specs.Subscriptions.{cursor_of}
use Rattle.session_state.specs.Subs.{as_live}
use Rattle.session_state.proofs.subs.cursor_of.Given as goal

abbrev pub invariant-loop-sub : goal.invariant-loop-sub
invariant-loop-sub l = cursor_of l.number (map as_live (drop l.sub-index l.subs)) ≡ cursor_of l.number (map as_live l.subs)
