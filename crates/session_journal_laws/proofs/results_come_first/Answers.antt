use Rattle.session_journal_laws.specs.OrderLaws.{results_come_first}
use Rattle.session_journal_laws.proofs.results_come_first.Goals as goal

pub returns : goal.returns
returns c = results_come_first
