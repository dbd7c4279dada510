use Rattle.store_machine.specs.LogOfLaws.{entries_in-log_of}
use Rattle.store_machine.proofs.laws.logs_stand_for_their_histories.Goals as goal

pub returns : goal.returns
returns c = entries_in-log_of
