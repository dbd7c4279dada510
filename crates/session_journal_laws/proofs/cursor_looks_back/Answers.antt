use Rattle.session_journal_laws.specs.TrackingLaws.{cursor_looks_back}
use Rattle.session_journal_laws.proofs.cursor_looks_back.Goals as goal

pub returns : goal.returns
returns c = cursor_looks_back
