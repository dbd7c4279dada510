use Rattle.history_model.specs.StatusLaws.{ended_stays}
use Rattle.history_model.proofs.laws.ended_runs_stay.Goals as goal

pub returns : goal.returns
returns c = ended_stays
