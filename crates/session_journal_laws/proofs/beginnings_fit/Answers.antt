use Rattle.session_journal_laws.specs.Beginnings.{beginnings_fit}
use Rattle.session_journal_laws.proofs.beginnings_fit.Goals as goal

pub returns : goal.returns
returns c = beginnings_fit
