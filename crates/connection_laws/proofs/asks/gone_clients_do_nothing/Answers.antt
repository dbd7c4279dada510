use Rattle.connection_laws.specs.AsksLaws.{gone_asked}
use Rattle.connection_laws.proofs.asks.gone_clients_do_nothing.Goals as goal

pub returns : goal.returns
returns c = gone_asked
