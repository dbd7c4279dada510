use Rattle.world_rounds_laws.specs.LinkedLaws.{act_linked}
use Rattle.world_rounds_laws.proofs.acts_leave_clients_linked.Goals as goal

pub returns : goal.returns
returns c = act_linked
