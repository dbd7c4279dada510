use Rattle.session_laws.specs.Showing.{fed_keeps}
use Rattle.session_laws.proofs.laws.feeding_keeps_it.Goals as goal

pub returns : goal.returns
returns c = λ sub count news old new can anywhere a. fed_keeps sub count news old new can anywhere a
