use Rattle.session_laws.specs.Longer.{longer_means}
use Rattle.session_laws.proofs.laws.later_moments_keep_it.Goals as goal

pub returns : goal.returns
returns c = longer_means
