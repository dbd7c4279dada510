use Rattle.history_model.specs.LimitLaws.{legal_within}
use Rattle.history_model.proofs.laws.legal_histories_keep_to_their_limits.Goals as goal

pub returns : goal.returns
returns c = legal_within
