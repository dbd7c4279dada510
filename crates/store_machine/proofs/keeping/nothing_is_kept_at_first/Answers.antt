use Rattle.store_machine.specs.KeepingLaws.{keeps_nothing}
use Rattle.store_machine.proofs.keeping.nothing_is_kept_at_first.Goals as goal

pub returns : goal.returns
returns c = keeps_nothing
