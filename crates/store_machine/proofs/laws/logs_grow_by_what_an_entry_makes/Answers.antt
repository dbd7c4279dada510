use Rattle.store_machine.specs.LogOfLaws.{log_of-settled}
use Rattle.store_machine.proofs.laws.logs_grow_by_what_an_entry_makes.Goals as goal

pub returns : goal.returns
returns c = log_of-settled
