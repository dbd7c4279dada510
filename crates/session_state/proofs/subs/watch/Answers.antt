use Rattle.std.proofs.Common.{Some, ◌∙◌, arith}
use Rattle.session_state.proofs.Places.{with_at, with_none}
use Rattle.session_state.proofs.subs.watch.Goals as goal

pub returns-in-Some-clause-observers : goal.returns-in-Some-clause-observers
returns-in-Some-clause-observers c =
    let p = c.in-Some.place in
    c.watch_at.ensures.observers ∙ with_at c.args.number 0 p p (Some c.args.observer) c.args.subs.now.items (omega arith) cc

pub returns-in_default-clause-observers : goal.returns-in_default-clause-observers
returns-in_default-clause-observers c = with_none c.args.number 0 (Some c.args.observer) c.args.subs.now.items cc
