use Rattle.store_machine.specs.ReservedLaws.{reserved-set}
use Rattle.store_machine.proofs.keeping.a_run_brings_its_steps.Goals as goal

pub returns : goal.returns
returns c = reserved-set
