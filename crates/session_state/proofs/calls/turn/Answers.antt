use Rattle.std.proofs.Common.{arith}
use Rattle.session_state.specs.Calls.{as_phase}
use Rattle.session_state.proofs.InPlace.{turned_set, turned_out}
use Rattle.session_state.proofs.calls.turn.Goals as goal

pub returns-in-Some : goal.returns-in-Some
returns-in-Some c = turned_set c.args.methods.now.items c.args.k c.in-Some.method.now c.args.phase c.in-Some.ensures.value

pub returns-in_default : goal.returns-in_default
returns-in_default c = turned_out c.args.methods.now.items c.args.k (as_phase c.args.phase) (λ within. let ok = c.args.methods.now.ok.0 in let some = c.in_default.ensures.variant.1 (omega (arith, within, ok)) in cc)
