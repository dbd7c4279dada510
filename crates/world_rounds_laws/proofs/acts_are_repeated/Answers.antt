use Rattle.world_rounds_laws.specs.LoopsLaws.{loop_begins, loop_goes_on}
use Rattle.world_rounds_laws.proofs.acts_are_repeated.Goals as goal

pub returns : goal.returns
returns c = record { begins = loop_begins; goes_on = loop_goes_on }
