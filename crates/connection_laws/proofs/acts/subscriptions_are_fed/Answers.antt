use Rattle.connection_laws.specs.Showing.{feed_makes}
use Rattle.connection_laws.proofs.acts.subscriptions_are_fed.Goals as goal

pub returns : goal.returns
returns c = λ app name history old sub count news s result p f few r. feed_makes app name history old p s sub count news f few result r
