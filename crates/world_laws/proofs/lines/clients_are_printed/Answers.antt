use Rattle.world_laws.specs.Printing.{shown, nobody_shown, journal_shown, nobody_journal}
use Rattle.world_laws.proofs.lines.clients_are_printed.Goals as goal

pub returns-clause-show : goal.returns-clause-show
returns-clause-show c = shown

pub returns-clause-no_show : goal.returns-clause-no_show
returns-clause-no_show c = nobody_shown

pub returns-clause-journal : goal.returns-clause-journal
returns-clause-journal c = journal_shown

pub returns-clause-no_journal : goal.returns-clause-no_journal
returns-clause-no_journal c = nobody_journal
