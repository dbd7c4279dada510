use Rattle.connection_laws.specs.BeginningLaws.{step_makes}
use Rattle.connection_laws.proofs.acts.runs_step.Goals as goal

pub returns : goal.returns
returns c = λ app name history old k next result p to told. step_makes app name history old p k next result to told
