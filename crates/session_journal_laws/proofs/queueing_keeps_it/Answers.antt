use Rattle.session_journal_laws.specs.RelationKeeping.{queued_stands}
use Rattle.session_journal_laws.proofs.queueing_keeps_it.Goals as goal

pub returns : goal.returns
returns c = queued_stands
