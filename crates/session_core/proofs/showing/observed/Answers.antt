use Rattle.std.proofs.Common.{List, Some, Option, subst, ◌∙◌}
use Rattle.ejson_value.specs.declared.change.Change.{Change}
use Rattle.session_core.specs.live_observer.Observing.{AnObserver}
use Rattle.session_core.specs.session_laws.Events.{Tells}
use Rattle.session_core.specs.Observed.{IsObserved}
use Rattle.session_core.proofs.Shown.{observer_is}
use Rattle.session_core.proofs.showing.observed.Goals as goal

pub returns-in_ok-news-in-Some-clause-observed : goal.returns-in_ok-news-in-Some-clause-observed
returns-in_ok-news-in-Some-clause-observed g c =
    let news = c.in_ok-news-in-Some.news in
    let plan = c.in_ok-news-in-Some.plan in
    subst (λ (o : Option AnObserver). IsObserved o c.args.batch.now.changes news (Some plan)) (c.in-Some.ensures ∙ observer_is c.args.sub c.args.inner.now)
    (c.in_ok-news-in-Some.ensures.plan, subst (λ (cs : List Change). Tells cs news plan c.in-Some.observer.now) c.as_slice.ensures c.in_ok-news-in-Some.ensures.follows)
