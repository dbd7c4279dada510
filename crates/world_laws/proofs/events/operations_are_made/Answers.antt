use Rattle.world_laws.specs.Asking.{administered, refused}
use Rattle.world_laws.proofs.events.operations_are_made.Goals as goal

pub returns-clause-made : goal.returns-clause-made
returns-clause-made c = administered

pub returns-clause-refused : goal.returns-clause-refused
returns-clause-refused c = refused
