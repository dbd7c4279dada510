use Rattle.std.proofs.Common.{true, false, refl}
use Rattle.duct.proofs.Polling.{next_of_some, next_of_none}
use Rattle.duct.proofs.memory_link.next_answer.Goals as goal

pub returns-in_ok-copy-in-Some : goal.returns-in_ok-copy-in-Some
returns-in_ok-copy-in-Some c =
    next_of_some c.args.texts.now c.args.at c.in_ok-copy-in-Some.field-0 c.args.closed (rw (c.in_ok-copy-in-Some.ensures, ← c.get.ensures, c.in-Some.is) refl)

pub returns-in-None : goal.returns-in-None
returns-in-None c = rw c.if-closed.true (next_of_none c.args.texts.now c.args.at true (rw (← c.get.ensures, c.in-None.is) refl))

pub returns-in-None-2 : goal.returns-in-None-2
returns-in-None-2 c = rw c.if-closed.false (next_of_none c.args.texts.now c.args.at false (rw (← c.get.ensures, c.in-None.is) refl))
