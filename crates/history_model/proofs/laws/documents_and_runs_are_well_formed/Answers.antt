use Rattle.history_model.specs.RunsLaws.{held_is}
use Rattle.history_model.proofs.laws.documents_and_runs_are_well_formed.Goals as goal

pub returns : goal.returns
returns c = held_is
