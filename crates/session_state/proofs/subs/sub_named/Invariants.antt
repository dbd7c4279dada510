use Rattle.std.proofs.Common.{◌≡◌, map, drop}
use Rattle.session_model.specs.Subscriptions.{sub_named}
use Rattle.session_state.specs.Subs.{as_live}
use Rattle.session_state.proofs.subs.sub_named.Given as goal

abbrev pub invariant-loop-sub : goal.invariant-loop-sub
invariant-loop-sub l = sub_named l.id (map as_live (drop l.sub-index l.subs)) ≡ sub_named l.id (map as_live l.subs)
