use Rattle.ddp_messages.proofs.PlainLaws.{server_texts}
use Rattle.ddp_messages.proofs.plain.from_server.Goals as goal

pub returns : goal.returns
returns c = server_texts c.server_message.result c.args.text.now c.read.new.self c.in_ok-read.ensures c.server_message.ensures
