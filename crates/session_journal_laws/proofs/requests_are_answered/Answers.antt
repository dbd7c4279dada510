use Rattle.session_journal_laws.specs.ReplyingLaws.{requests_are_answered}
use Rattle.session_journal_laws.proofs.requests_are_answered.Goals as goal

pub returns : goal.returns
returns c = requests_are_answered
