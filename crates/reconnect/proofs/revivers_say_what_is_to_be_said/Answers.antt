use Rattle.reconnect.specs.HistoryLaws.{said_and_waiting}
use Rattle.reconnect.proofs.revivers_say_what_is_to_be_said.Goals as goal

pub returns : goal.returns
returns c = said_and_waiting
