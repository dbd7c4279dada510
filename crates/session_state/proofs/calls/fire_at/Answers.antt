use Rattle.std.proofs.Common.{arith}
use Rattle.session_state.proofs.InPlace.{fire_set, fire_out}
use Rattle.session_state.proofs.calls.fire_at.Goals as goal

pub returns-in-Some : goal.returns-in-Some
returns-in-Some c = fire_set c.args.progress.now c.args.methods.now.items c.args.place c.in-Some.method.now c.fired-method.result c.in-Some.ensures.value c.fired-method.ensures

pub returns-in_default : goal.returns-in_default
returns-in_default c = fire_out c.args.progress.now c.args.methods.now.items c.args.place (λ within. let ok = c.args.methods.now.ok.0 in let some = c.in_default.ensures.variant.1 (omega (arith, within, ok)) in cc)
