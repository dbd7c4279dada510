use Rattle.history_model.specs.StatusLaws.{unblocked_stays}
use Rattle.history_model.proofs.laws.unblocked_runs_stay_unblocked.Goals as goal

pub returns : goal.returns
returns c = unblocked_stays
