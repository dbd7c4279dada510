use Rattle.store_machine.specs.KeepingLaws.{keeps_stepped}
use Rattle.store_machine.proofs.keeping.made_steps_are_kept.Goals as goal

pub returns : goal.returns
returns c = keeps_stepped
