use Rattle.reconnect_laws.specs.OnceLaws.{said_once}
use Rattle.reconnect_laws.proofs.methods_are_said_again_once.Goals as goal

pub returns : goal.returns
returns c = said_once
