use Rattle.store_machine.specs.KeepingLaws.{keeps_operated}
use Rattle.store_machine.proofs.keeping.made_operations_are_kept.Goals as goal

pub returns : goal.returns
returns c = keeps_operated
