use Rattle.session_journal_laws.specs.PublicationLaws.{stored_queried}
use Rattle.session_journal_laws.proofs.what_is_published_can_be_stored.Goals as goal

pub returns : goal.returns
returns c = stored_queried
