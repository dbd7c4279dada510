use Rattle.std.proofs.Common.{◌≡◌, subst}
use Rattle.std.specs.Prelude.{IfOk}
use Rattle.ddp_messages.specs.ClientMessage.{client_view}
use Rattle.session_texts.specs.Taking.{as_taken}
use Rattle.session_texts.proofs.Answered.{of_message, within}
use Rattle.session_texts.proofs.taking.taken_from.Goals as goal

pub returns-in-Ok : goal.returns-in-Ok
returns-in-Ok c =
    let t = c.args.text.now in
    let short = within c.len.result t c.if-len-gt-MAX_TEXT.false c.len.ensures in
    subst (λ x. IfOk c.taken_message.result (λ r. as_taken r ≡ x)) (of_message c.args.connected t (client_view c.in-Ok.message) short c.in-Ok.ensures.exact) c.taken_message.ensures
