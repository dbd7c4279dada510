use Rattle.program_model.specs.RunLaws.{begun_is}
use Rattle.program_model.proofs.laws.begun_runs_are_runs.Goals as goal

pub returns : goal.returns
returns c = begun_is
