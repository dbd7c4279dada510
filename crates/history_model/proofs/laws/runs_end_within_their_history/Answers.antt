use Rattle.history_model.specs.StatusLaws.{ended_within}
use Rattle.history_model.proofs.laws.runs_end_within_their_history.Goals as goal

pub returns : goal.returns
returns c = ended_within
