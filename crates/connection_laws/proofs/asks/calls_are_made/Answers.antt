use Rattle.connection_laws.specs.AsksLaws.{call_makes}
use Rattle.connection_laws.proofs.asks.calls_are_made.Goals as goal

pub returns : goal.returns
returns c = λ app name history old own method params result p there r. call_makes app name history old p there own method params result r
