use Rattle.std.proofs.Common.{arith}
use Rattle.session_state.proofs.Places.{cursor_set, cursor_out, same_observers}
use Rattle.session_state.proofs.subs.place_at.Goals as goal

pub returns-in-Some-clause-placed : goal.returns-in-Some-clause-placed
returns-in-Some-clause-placed c = cursor_set c.args.subs.now.items c.args.place c.args.at c.in-Some.sub.now c.in-Some.ensures.value

pub returns-in-Some-clause-observers : goal.returns-in-Some-clause-observers
returns-in-Some-clause-observers c = same_observers c.args.subs.now.items c.args.place c.args.at c.in-Some.sub.now c.in-Some.ensures.value

pub returns-in_default-clause-placed : goal.returns-in_default-clause-placed
returns-in_default-clause-placed c = cursor_out c.args.subs.now.items c.args.place c.args.at (λ within. let ok = c.args.subs.now.ok.0 in let some = c.in_default.ensures.variant.1 (omega (arith, within, ok)) in cc)
