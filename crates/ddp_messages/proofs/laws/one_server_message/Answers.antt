use Rattle.ddp_messages.specs.AnswerLaws.{one_server}
use Rattle.ddp_messages.proofs.laws.one_server_message.Goals as goal

pub returns : goal.returns
returns c = one_server
