use Rattle.session_journal_laws.specs.RelationKeeping.{longer_stands}
use Rattle.session_journal_laws.proofs.longer_stores_keep_it.Goals as goal

pub returns : goal.returns
returns c = longer_stands
