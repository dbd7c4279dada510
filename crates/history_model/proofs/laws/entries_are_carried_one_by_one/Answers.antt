use Rattle.history_model.specs.HistoryLaws.{held-append}
use Rattle.history_model.proofs.laws.entries_are_carried_one_by_one.Goals as goal

pub returns : goal.returns
returns c = held-append
