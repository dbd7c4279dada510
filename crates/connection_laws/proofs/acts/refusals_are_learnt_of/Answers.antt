use Rattle.connection_laws.specs.Learning.{refuse_makes}
use Rattle.connection_laws.proofs.acts.refusals_are_learnt_of.Goals as goal

pub returns : goal.returns
returns c = λ app name history old k place r s result p is its known q. refuse_makes app name history old p k place r is its known s result q
