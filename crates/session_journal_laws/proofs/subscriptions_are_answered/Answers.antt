use Rattle.session_journal_laws.specs.SubAnswersLaws.{sub_answers}
use Rattle.session_journal_laws.proofs.subscriptions_are_answered.Goals as goal

pub returns : goal.returns
returns c = sub_answers
