use Rattle.connection_laws.specs.AsksLaws.{raw_makes}
use Rattle.connection_laws.proofs.asks.texts_are_queued.Goals as goal

pub returns : goal.returns
returns c = λ app name history old own t result p there r. raw_makes app name history old p there own t result r
