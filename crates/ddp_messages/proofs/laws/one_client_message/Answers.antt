use Rattle.ddp_messages.specs.AnswerLaws.{one_client}
use Rattle.ddp_messages.proofs.laws.one_client_message.Goals as goal

pub returns : goal.returns
returns c = one_client
