use Rattle.store_machine.specs.KeepingLaws.{step_fits}
use Rattle.store_machine.proofs.keeping.made_steps_have_room.Goals as goal

pub returns : goal.returns
returns c = step_fits
