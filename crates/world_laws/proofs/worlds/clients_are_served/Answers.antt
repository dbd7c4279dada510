use Rattle.world_laws.specs.Promises.{clients_linked}
use Rattle.world_laws.proofs.worlds.clients_are_served.Goals as goal

pub returns-clause-linked : goal.returns-clause-linked
returns-clause-linked c = clients_linked

pub returns-clause-served : goal.returns-clause-served
returns-clause-served c = λ x p name k is. (clients_linked x p name k is).served
