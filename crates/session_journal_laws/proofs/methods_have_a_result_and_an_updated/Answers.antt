use Rattle.session_journal_laws.specs.CountsLaws.{methods_are_answered}
use Rattle.session_journal_laws.proofs.methods_have_a_result_and_an_updated.Goals as goal

pub returns : goal.returns
returns c = methods_are_answered
