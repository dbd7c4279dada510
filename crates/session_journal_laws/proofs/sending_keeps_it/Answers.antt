use Rattle.session_journal_laws.specs.RelationKeeping.{sent_stands}
use Rattle.session_journal_laws.proofs.sending_keeps_it.Goals as goal

pub returns : goal.returns
returns c = sent_stands
