use Rattle.connection_laws.specs.AsksLaws.{subscribe_makes}
use Rattle.connection_laws.proofs.asks.subscriptions_are_asked_for.Goals as goal

pub returns : goal.returns
returns c = λ app name history old own id publication params result p there r. subscribe_makes app name history old p there own id publication params result r
