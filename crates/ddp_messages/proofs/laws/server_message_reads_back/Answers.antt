use Rattle.ddp_messages.specs.ServerLaws.{server_back}
use Rattle.ddp_messages.proofs.laws.server_message_reads_back.Goals as goal

pub returns : goal.returns
returns c = server_back
