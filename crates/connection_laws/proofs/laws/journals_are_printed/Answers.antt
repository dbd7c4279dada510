use Rattle.connection_laws.specs.PrintingLaws.{journal_is}
use Rattle.connection_laws.proofs.laws.journals_are_printed.Goals as goal

pub returns : goal.returns
returns c = journal_is
