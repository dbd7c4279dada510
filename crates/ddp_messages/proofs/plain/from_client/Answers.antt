use Rattle.ddp_messages.proofs.PlainLaws.{client_texts}
use Rattle.ddp_messages.proofs.plain.from_client.Goals as goal

pub returns : goal.returns
returns c = client_texts c.client_message.result c.args.text.now c.read.new.self c.in_ok-read.ensures c.client_message.ensures
