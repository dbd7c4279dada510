use Rattle.connection_laws.specs.BeginningLaws.{may_begin}
use Rattle.connection_laws.proofs.acts.calls_may_begin.Goals as goal

pub returns : goal.returns
returns c = λ app name history old b p known blocks none. may_begin app name history old p known b blocks none
