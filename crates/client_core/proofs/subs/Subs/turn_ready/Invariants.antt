use Rattle.std.proofs.Common.{◌≡◌, drop}
use Rattle.client_model.specs.Taking.{readied}
use Rattle.client_core.proofs.subs.Subs.turn_ready.Given as goal

abbrev pub invariant-loop-id : goal.invariant-loop-id
invariant-loop-id l = readied (drop l.id-index l.id-items) l.self ≡ readied l.id-items l.initial.self
