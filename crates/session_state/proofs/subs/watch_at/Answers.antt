use Rattle.std.proofs.Common.{Some, refl, arith}
use Rattle.session_state.proofs.Places.{same_lives, observer_set, observer_out}
use Rattle.session_state.proofs.subs.watch_at.Goals as goal

pub returns-in-Some-clause-same : goal.returns-in-Some-clause-same
returns-in-Some-clause-same c = let x = c.in-Some.sub.now in same_lives c.args.subs.now.items c.args.place x (record x { observer = Some c.args.observer }) c.in-Some.ensures.value refl

pub returns-in-Some-clause-observers : goal.returns-in-Some-clause-observers
returns-in-Some-clause-observers c = let x = c.in-Some.sub.now in observer_set c.args.subs.now.items c.args.place (record x { observer = Some c.args.observer })

pub returns-in_default-clause-observers : goal.returns-in_default-clause-observers
returns-in_default-clause-observers c = observer_out c.args.subs.now.items c.args.place (Some c.args.observer) (λ within. let ok = c.args.subs.now.ok.0 in let some = c.in_default.ensures.variant.1 (omega (arith, within, ok)) in cc)
