use Rattle.ddp_messages.specs.MessageLaws.{client_text_back}
use Rattle.ddp_messages.proofs.client_texts_read_back.Goals as goal

pub returns : goal.returns
returns c = client_text_back
