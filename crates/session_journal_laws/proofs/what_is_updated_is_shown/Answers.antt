use Rattle.session_journal_laws.specs.FencesLaws.{caught_up}
use Rattle.session_journal_laws.proofs.what_is_updated_is_shown.Goals as goal

pub returns : goal.returns
returns c = caught_up
