use Rattle.session_laws.specs.Showing.{loaded_keeps}
use Rattle.session_laws.proofs.laws.loading_keeps_it.Goals as goal

pub returns : goal.returns
returns c = λ sub place rows old new can a. loaded_keeps sub place rows old new can a
