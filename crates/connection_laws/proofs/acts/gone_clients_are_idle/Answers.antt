use Rattle.connection_laws.specs.Links.{gone_idle}
use Rattle.connection_laws.proofs.acts.gone_clients_are_idle.Goals as goal

pub returns : goal.returns
returns c = gone_idle
