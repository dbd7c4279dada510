use Rattle.session_laws.specs.Handled.{handled_keeps}
use Rattle.session_laws.proofs.laws.handling_keeps_it.Goals as goal

pub returns : goal.returns
returns c = λ old new free a. handled_keeps old new free a
