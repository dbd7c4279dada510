use Rattle.connection_laws.specs.Links.{take_makes, take_none}
use Rattle.connection_laws.proofs.acts.texts_are_taken_by_clients.Goals as goal

pub returns : goal.returns
returns c = record { taken = λ app name history old own t rest result p there lies r. take_makes app name history old p own t rest there lies result r; none = take_none }
