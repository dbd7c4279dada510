use Rattle.std.proofs.Common.{subst}
use Rattle.std.specs.List.{AllByRecursion}
use Rattle.live_observer.specs.Observing.{AnObserver, IsWatching}
use Rattle.live_observer.proofs.Plans.{stand_anywhere}
use Rattle.live_observer.proofs.observer.Observer.stands_anywhere.Goals as goal

pub returns : goal.returns
returns c = λ none rows. stand_anywhere c.args.self.now (subst (λ (w : AnObserver). AllByRecursion IsWatching w) c.self.view_is c.self.invariant.windows) none rows
