use Rattle.headline.specs.Modest.{modest_are_quiescent, settled_modest_are_quiescent}
use Rattle.headline.proofs.modest_clients_are_quiescent.Goals as goal

pub returns-clause-settled : goal.returns-clause-settled
returns-clause-settled c = settled_modest_are_quiescent

pub returns-clause-resting : goal.returns-clause-resting
returns-clause-resting c = modest_are_quiescent
