use Rattle.session_journal_laws.specs.ToldLaws.{told_when_first_open}
use Rattle.session_journal_laws.proofs.told_when_first_open.Goals as goal

pub returns : goal.returns
returns c = told_when_first_open
