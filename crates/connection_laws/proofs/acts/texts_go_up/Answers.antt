use Rattle.connection_laws.specs.Links.{up_made, up_none, up_full}
use Rattle.connection_laws.proofs.acts.texts_go_up.Goals as goal

pub returns : goal.returns
returns c = record {
  moved = λ app name history old own t p there room s. up_made app name history old p own t there room s;
  none = up_none;
  full = up_full;
}
