use Rattle.connection_laws.specs.Showing.{advance_makes, advance_unloaded, advance_past}
use Rattle.connection_laws.proofs.acts.subscriptions_go_on.Goals as goal

pub returns : goal.returns
returns c = record {
  moved = λ app name history old sub count start changes s result p is le few by r. advance_makes app name history old p s sub count start changes is le few by result r;
  unloaded = λ app name history old sub count p none. advance_unloaded app name history old p sub count none;
  past = λ app name history old sub count start p is past. advance_past app name history old p sub count start is past;
}
