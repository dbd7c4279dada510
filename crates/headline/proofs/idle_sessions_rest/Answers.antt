use Rattle.headline.specs.Rest.{is_resting}
use Rattle.headline.proofs.idle_sessions_rest.Goals as goal

pub returns : goal.returns
returns c = is_resting
