use Rattle.store_machine.specs.LogOfLaws.{changes_behind-log_of}
use Rattle.store_machine.proofs.laws.batches_are_the_changes_between_places.Goals as goal

pub returns : goal.returns
returns c = changes_behind-log_of
