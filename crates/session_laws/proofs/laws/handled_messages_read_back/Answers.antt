use Rattle.session_model.specs.State.{state_of}
use Rattle.session_laws.specs.Handled.{read_back}
use Rattle.session_laws.proofs.laws.handled_messages_read_back.Goals as goal

pub returns : goal.returns
returns c = λ app number taken place items m w e. read_back app number taken place (state_of items) m w e
