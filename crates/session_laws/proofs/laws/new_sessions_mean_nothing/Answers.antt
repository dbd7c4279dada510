use Rattle.session_laws.specs.Longer.{new_means}
use Rattle.session_laws.proofs.laws.new_sessions_mean_nothing.Goals as goal

pub returns : goal.returns
returns c = new_means
