use Rattle.session_model.specs.State.{started}
use Rattle.session_journal_laws.specs.LongerLaws.{fits_from-longer}
use Rattle.session_journal_laws.proofs.journals_fit_longer_stores.Goals as goal

pub returns : goal.returns
returns c = λ app number C more items f. fits_from-longer app number C more started items f
