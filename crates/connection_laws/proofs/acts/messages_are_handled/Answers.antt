use Rattle.connection_laws.specs.Receiving.{handle_makes}
use Rattle.connection_laws.proofs.acts.messages_are_handled.Goals as goal

pub returns : goal.returns
returns c = λ app name history old s result p r. handle_makes app name history old p s result r
