use Rattle.ddp_messages.specs.ServerMessage.{server_view}
use Rattle.reconnect.proofs.Reviving.{hears_given}
use Rattle.reconnect.proofs.reviver.Reviver.hear.Goals as goal

pub returns : goal.returns
returns c =
    hears_given _ c.args.self.now c.note.new.self c.given.new.self c.args.text.now (server_view c.in_ok-message.message) c.in_ok-given.field-0 c.self.view_is
    c.in_ok-message.ensures.0 c.in_ok-message.ensures.1 c.in_default.ensures.0 c.in_default.ensures.1 c.in_ok-given.ensures
