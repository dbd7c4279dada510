use Rattle.connection_laws.specs.AsksLaws.{unsubscribe_makes}
use Rattle.connection_laws.proofs.asks.subscriptions_are_ended.Goals as goal

pub returns : goal.returns
returns c = λ app name history old own id result p there r. unsubscribe_makes app name history old p there own id result r
