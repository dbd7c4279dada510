use Rattle.ddp_messages.specs.MessageLaws.{server_text_back}
use Rattle.ddp_messages.proofs.server_texts_read_back.Goals as goal

pub returns : goal.returns
returns c = server_text_back
