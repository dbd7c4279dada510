use Rattle.connection_laws.specs.AsksLaws.{drop_made}
use Rattle.connection_laws.proofs.asks.clients_are_dropped.Goals as goal

pub returns : goal.returns
returns c = λ app name history old s p there r. drop_made app name history old p there s r
