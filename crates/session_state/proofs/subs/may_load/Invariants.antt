use Rattle.std.proofs.Common.{◌≡◌, map, drop}
use Rattle.session_model.specs.Subscriptions.{may_load}
use Rattle.session_state.specs.Subs.{as_live}
use Rattle.session_state.proofs.subs.may_load.Given as goal

abbrev pub invariant-loop-sub : goal.invariant-loop-sub
invariant-loop-sub l = may_load l.number l.at (map as_live (drop l.sub-index l.subs)) ≡ may_load l.number l.at (map as_live l.subs)
