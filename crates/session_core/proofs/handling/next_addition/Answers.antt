use Rattle.ddp_messages.specs.ClientMessage.{client_view}
use Rattle.session_core.proofs.Nexts.{next_is}
use Rattle.session_core.proofs.handling.next_addition.Goals as goal

pub returns : goal.returns
returns c =
    next_is c.args.inner.now (client_view c.in-Some.message.now) c.in-Some-front.text.now c.in_ok-addition_for.field-0 c.requires.kept c.requires.can c.in-Some.ensures.message c.in-Some-front.ensures.lookup
    c.in_ok-addition_for.ensures
