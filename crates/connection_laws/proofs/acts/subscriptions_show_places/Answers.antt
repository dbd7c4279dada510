use Rattle.connection_laws.specs.Showing.{cursor_within, difference_feeds}
use Rattle.connection_laws.proofs.acts.subscriptions_show_places.Goals as goal

pub returns : goal.returns
returns c = record {
  within = λ app name history old sub start p is. cursor_within app name history old p sub start is;
  feeds = λ app name history old sub start count news p is le none d. difference_feeds app name history old p sub start is count news le none d;
}
