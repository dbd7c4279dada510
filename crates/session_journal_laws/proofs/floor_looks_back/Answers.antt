use Rattle.session_journal_laws.specs.FloorsLaws.{floor_looks_back}
use Rattle.session_journal_laws.proofs.floor_looks_back.Goals as goal

pub returns : goal.returns
returns c = floor_looks_back
