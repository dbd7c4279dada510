use Rattle.connection_laws.specs.StandingLaws.{new_is, new_stays}
use Rattle.connection_laws.proofs.laws.new_clients_are_kept.Goals as goal

pub returns : goal.returns
returns c = record { is = new_is; stays = new_stays }
