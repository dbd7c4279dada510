use Rattle.ddp_messages.specs.ClientLaws.{client_back}
use Rattle.ddp_messages.proofs.laws.client_message_reads_back.Goals as goal

pub returns : goal.returns
returns c = client_back
