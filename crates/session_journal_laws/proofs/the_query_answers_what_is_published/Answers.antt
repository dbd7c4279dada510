use Rattle.session_journal_laws.specs.PublicationLaws.{query_is}
use Rattle.session_journal_laws.proofs.the_query_answers_what_is_published.Goals as goal

pub returns : goal.returns
returns c = query_is
