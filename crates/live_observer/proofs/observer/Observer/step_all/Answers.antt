use Rattle.std.proofs.Common.{◌≡◌, [], map, ap, sym, subst, ◌∙◌}
use Rattle.ejson_value.specs.Changes.{news_of}
use Rattle.publication.specs.Cursors.{HaveDistinctNames}
use Rattle.live_observer.specs.Observing.{AnObserver, APlan, cursors_of, IsStep, IsPlanOf}
use Rattle.live_observer.specs.Answering.{ToldMap, ToldOf, put_all, publish_of, plan_of}
use Rattle.live_observer.proofs.Answers.{news_published, is_step, is_plan}
use Rattle.live_observer.proofs.observer.Observer.step_all.Goals as goal

pub returns-clause-follows : goal.returns-clause-follows
returns-clause-follows g c = λ rows rows' f.
    let self = c.args.self.now in
    let told = c.in_ok-told.told.items in
    let names = subst (λ (w : AnObserver). HaveDistinctNames (cursors_of w)) c.self.view_is c.self.invariant.names in
    let step = is_step self told c.args.changes.now rows rows' names c.in_ok-told.ensures.told f in
    let is = ap news_of (c.in_ok-answer.ensures ∙ ap (λ all. map publish_of (put_all [] all)) c.as_slice.ensures.value) ∙ news_published (put_all [] told) in
    subst (λ (plan : APlan). IsStep self rows rows' (news_of c.in_ok-answer.answer) plan) (sym c.in_ok-plan.ensures) (subst (λ (t : ToldMap). IsStep self rows rows' t (plan_of told)) (sym is) step)

pub returns-clause-plan : goal.returns-clause-plan
returns-clause-plan g c =
    let self = c.args.self.now in
    subst (λ (plan : APlan). IsPlanOf self plan) (sym c.in_ok-plan.ensures) (is_plan self c.in_ok-told.told.items c.args.changes.now c.in_ok-told.ensures.told)
