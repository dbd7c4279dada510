use Rattle.history_model.specs.HistoryLaws.{IsLegal-first}
use Rattle.history_model.proofs.laws.legal_histories_begin_legally.Goals as goal

pub returns : goal.returns
returns c = IsLegal-first
