use Rattle.connection_laws.specs.Showing.{load_makes, load_past}
use Rattle.connection_laws.proofs.acts.subscriptions_are_loaded.Goals as goal

pub returns : goal.returns
returns c = record { loaded = λ app name history old sub place rows s result p le is r. load_makes app name history old p s sub place rows le is result r; past = load_past }
