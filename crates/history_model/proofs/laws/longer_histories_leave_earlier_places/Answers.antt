use Rattle.history_model.specs.HistoryLaws.{held_at-longer}
use Rattle.history_model.proofs.laws.longer_histories_leave_earlier_places.Goals as goal

pub returns : goal.returns
returns c = held_at-longer
