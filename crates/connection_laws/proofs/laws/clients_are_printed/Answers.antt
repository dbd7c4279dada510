use Rattle.connection_laws.specs.PrintingLaws.{show_is}
use Rattle.connection_laws.proofs.laws.clients_are_printed.Goals as goal

pub returns : goal.returns
returns c = show_is
