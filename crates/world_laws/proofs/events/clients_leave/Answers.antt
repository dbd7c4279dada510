use Rattle.world_laws.specs.Asking.{drop_made}
use Rattle.world_laws.proofs.events.clients_leave.Goals as goal

pub returns : goal.returns
returns c = drop_made
