use Rattle.connection_laws.specs.StandingLaws.{state_is}
use Rattle.connection_laws.proofs.laws.sessions_are_seen_as_they_are.Goals as goal

pub returns : goal.returns
returns c = state_is
