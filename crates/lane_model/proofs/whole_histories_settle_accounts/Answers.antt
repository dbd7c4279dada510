use Rattle.lane_model.specs.AccountLaws.{true_settled}
use Rattle.lane_model.proofs.whole_histories_settle_accounts.Goals as goal

pub returns : goal.returns
returns c = true_settled
