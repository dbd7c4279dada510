use Rattle.connection_laws.specs.Learning.{learn_makes, learn_past, learn_unbegun}
use Rattle.connection_laws.proofs.acts.calls_are_learnt_of.Goals as goal

pub returns : goal.returns
returns c = record {
  learnt = λ app name history old k place status s result p other le is r. learn_makes app name history old p k place other status le is s result r;
  past = λ app name history old k place p other past. learn_past app name history old p k place other past;
  none = λ app name history old k place p other none. learn_unbegun app name history old p k place other none;
}
