use Rattle.store_machine.specs.KeepingLaws.{keeps_begun}
use Rattle.store_machine.proofs.keeping.begun_calls_are_kept.Goals as goal

pub returns : goal.returns
returns c = keeps_begun
