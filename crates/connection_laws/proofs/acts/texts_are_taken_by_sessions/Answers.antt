use Rattle.connection_laws.specs.Receiving.{recv_makes, recv_idle}
use Rattle.connection_laws.proofs.acts.texts_are_taken_by_sessions.Goals as goal

pub returns : goal.returns
returns c = record { taken = λ app name history old t rest s result p lies r. recv_makes app name history old p t rest lies s result r; none = recv_idle }
