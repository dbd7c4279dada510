use Rattle.std.proofs.Common.{sym}
use Rattle.ddp_messages.specs.ClientMessage.{sub as asks}
use Rattle.session_core.proofs.asked.Asked.opened.Goals as goal

pub returns : goal.returns
returns c = c.open.ensures (asks c.args.id.now c.args.name.now c.args.params.now) c.args.cursors (sym c.in_ok-shown_id.ensures) c.in_ok-made.ensures.observer c.in_ok-made.ensures.live
