use Rattle.connection_laws.specs.StandingLaws.{longer_stays}
use Rattle.connection_laws.proofs.laws.later_entries_keep_it.Goals as goal

pub returns : goal.returns
returns c = longer_stays
