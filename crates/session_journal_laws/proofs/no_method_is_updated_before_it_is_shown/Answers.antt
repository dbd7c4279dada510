use Rattle.session_journal_laws.specs.Beginnings.{beginnings_fit}
use Rattle.session_journal_laws.specs.Reflecting.{updated_is_reflected}
use Rattle.session_journal_laws.proofs.no_method_is_updated_before_it_is_shown.Goals as goal

pub returns : goal.returns
returns c = λ app number C items f id n. updated_is_reflected app number C _ (beginnings_fit app number C items f n) id
