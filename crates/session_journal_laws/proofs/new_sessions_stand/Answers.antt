use Rattle.session_journal_laws.specs.RelationKeeping.{new_stands}
use Rattle.session_journal_laws.proofs.new_sessions_stand.Goals as goal

pub returns : goal.returns
returns c = new_stands
