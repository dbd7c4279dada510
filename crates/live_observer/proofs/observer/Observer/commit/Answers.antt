use Rattle.std.proofs.Common.{◌≡◌, ap, sym, subst, ◌∙◌}
use Rattle.std.specs.List.{AllByRecursion}
use Rattle.publication.specs.Cursors.{ACursors, HaveDistinctNames}
use Rattle.live_observer.specs.Observing.{AnObserver, cursors_of, carried, IsWatching, IsWhole}
use Rattle.live_observer.proofs.Plans.{same_cursors, whole_carried}
use Rattle.live_observer.proofs.observer.Observer.commit.Goals as goal

pub invariant_of-self : goal.invariant_of-self
invariant_of-self c = subst (λ (w : AnObserver). IsWhole w) (sym c.commit_all.ensures) (whole_carried c.self.inside.watched.items c.plan.inside.moves.items c.self.invariant)

pub returns-clause-cursors : goal.returns-clause-cursors
returns-clause-cursors c =
    ap (λ (w : AnObserver). cursors_of w) c.commit_all.ensures ∙ same_cursors c.self.inside.watched.items c.plan.inside.moves.items ∙ ap (λ (w : AnObserver). cursors_of w) c.self.view_is
