use Rattle.session_journal_laws.specs.LengthsLaws.{journals_are_short}
use Rattle.session_journal_laws.proofs.journals_are_short.Goals as goal

pub returns : goal.returns
returns c = journals_are_short
