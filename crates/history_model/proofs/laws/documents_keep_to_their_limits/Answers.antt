use Rattle.history_model.specs.StoredLaws.{stored_held}
use Rattle.history_model.proofs.laws.documents_keep_to_their_limits.Goals as goal

pub returns : goal.returns
returns c = stored_held
