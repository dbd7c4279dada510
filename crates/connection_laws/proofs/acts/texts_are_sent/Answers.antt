use Rattle.connection_laws.specs.Links.{send_made, send_none, send_full}
use Rattle.connection_laws.proofs.acts.texts_are_sent.Goals as goal

pub returns : goal.returns
returns c = record {
  sent = λ app name history old t s p room q. send_made app name history old p s t room q;
  none = λ app name history old s p q. send_none app name history old p s q;
  full = send_full;
}
