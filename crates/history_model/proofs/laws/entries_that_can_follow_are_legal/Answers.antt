use Rattle.history_model.specs.HistoryLaws.{IsLegal-append}
use Rattle.history_model.proofs.laws.entries_that_can_follow_are_legal.Goals as goal

pub returns : goal.returns
returns c = IsLegal-append
