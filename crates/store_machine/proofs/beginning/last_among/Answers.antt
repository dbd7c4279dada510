use Rattle.std.proofs.Common.{arith}
use Rattle.store_machine.proofs.Lasts.{last_in, last_own, last_other}
use Rattle.store_machine.proofs.Nexts.{from_call}
use Rattle.store_machine.proofs.beginning.last_among.Goals as goal

pub returns-in-None : goal.returns-in-None
returns-in-None c = λ k fits. (c.range.ensures.in_range tt).5 c.in-None.ensures.steps.0 (c.args.session, k) (tt, from_call c.args.session k 18446744073709551615 (omega (arith, fits)))

pub returns-then-key-session : goal.returns-then-key-session
returns-then-key-session c =
    let last =
    last_in c.args.calls.now.entries c.args.session 18446744073709551615 c.range.result c.in-Some.key.now c.in-Some.field-0-1.now c.next_back.new.self c.in-Some.ensures.steps
    (c.range.ensures.in_range tt).3 (c.range.ensures.in_range tt).4 in
    let own = last_own c.args.calls.now.entries c.args.session 18446744073709551615 c.in-Some.key.now last c.if-key-session.true in
    (own.0, λ k above fits. own.1 k above (omega (arith, fits)))

pub returns-else-key-session : goal.returns-else-key-session
returns-else-key-session c =
    let last =
    last_in c.args.calls.now.entries c.args.session 18446744073709551615 c.range.result c.in-Some.key.now c.in-Some.field-0-1.now c.next_back.new.self c.in-Some.ensures.steps
    (c.range.ensures.in_range tt).3 (c.range.ensures.in_range tt).4 in
    λ k fits. last_other c.args.calls.now.entries c.args.session 18446744073709551615 c.in-Some.key.now last c.if-key-session.false k (omega (arith, fits))
