use Rattle.connection_laws.specs.BeginningLaws.{value_of-view}
use Rattle.connection_laws.proofs.laws.values_are_made_again.Goals as goal

pub returns : goal.returns
returns c = value_of-view
