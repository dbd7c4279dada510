use Rattle.store_machine.proofs.Nexts.{free_begins, first_in, other_decides, own_decides, from_call}
use Rattle.store_machine.proofs.beginning.may_begin.Goals as goal

pub returns-in-None : goal.returns-in-None
returns-in-None c =
    free_begins c.args.app.now c.args.parts.now c.args.session c.args.k c.requires (λ j le. (c.range.ensures.in_range tt).5 c.in-None.ensures.steps.0 (c.args.session, j) (from_call c.args.session c.args.k j le, tt))

pub returns-then-key-session : goal.returns-then-key-session
returns-then-key-session c =
    let first =
    first_in c.args.parts.now.calls.entries c.args.session c.args.k c.range.result c.in-Some.key.now c.in-Some.field-0-1.now c.next.new.self c.in-Some.ensures.steps
    (c.range.ensures.in_range tt).1 (λ q behind there. (c.range.ensures.in_range tt).2 q (behind, tt) there) in
    other_decides c.args.app.now c.args.parts.now c.args.session c.args.k c.in-Some.key.now c.requires first c.if-key-session.true

pub returns-else-key-session : goal.returns-else-key-session
returns-else-key-session c =
    let first =
    first_in c.args.parts.now.calls.entries c.args.session c.args.k c.range.result c.in-Some.key.now c.in-Some.field-0-1.now c.next.new.self c.in-Some.ensures.steps
    (c.range.ensures.in_range tt).1 (λ q behind there. (c.range.ensures.in_range tt).2 q (behind, tt) there) in
    own_decides c.args.app.now c.args.parts.now c.args.session c.args.k c.in-Some.key.now c.requires first c.if-key-session.false
