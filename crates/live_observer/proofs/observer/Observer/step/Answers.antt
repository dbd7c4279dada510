use Rattle.std.proofs.Common.{◌≡◌, false, [], ap, sym, subst, ◌∙◌}
use Rattle.ejson_value.specs.Changes.{news_of}
use Rattle.live_observer.specs.Observing.{AnObserver, APlan, IsStep, IsPlanOf, touches}
use Rattle.live_observer.specs.Answering.{ToldMap}
use Rattle.live_observer.proofs.Elsewhere.{no_step}
use Rattle.live_observer.proofs.observer.Observer.step.Goals as goal

pub returns-else-touches-clause-follows : goal.returns-else-touches-clause-follows
returns-else-touches-clause-follows g c = λ rows rows' f.
    let self = c.args.self.now in
    let changes = c.args.changes.now in
    let none : touches self changes ≡ false = sym (ap (λ (w : AnObserver). touches w changes) (c.as_slice.ensures.value ∙ c.self.view_is)) ∙ sym c.touches.ensures ∙ c.if-touches.false in
    subst (λ (plan : APlan). IsStep self rows rows' (news_of c.new.result) plan) (sym c.none.ensures) (subst (λ (t : ToldMap). IsStep self rows rows' t []) (sym (ap news_of c.new.ensures)) (no_step self changes rows rows' none f))
