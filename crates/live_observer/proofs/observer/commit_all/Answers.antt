use Rattle.std.proofs.Common.{◌≡◌, ◌∷◌, [], ◌++◌, length, ap, sym, subst, ◌∙◌, arith}
use Rattle.sort_window.specs.Windows.{MovesState}
use Rattle.live_observer.specs.Observing.{AnObserver, APlan, IsPlanOf, carried}
use Rattle.live_observer.specs.Answering.{carried_at, IsMoveAt}
use Rattle.live_observer.proofs.Plans.{carried_nothing, carried_last, last_fits, others_fit, empty_is}
use Rattle.live_observer.proofs.observer.commit_all.Goals as goal

pub commit_at-requires : goal.commit_at-requires
commit_at-requires c =
    let watched = c.loop-last.watched.items in
    let plan = c.pop.new.self.items in
    let last = c.in-Some.last in
    subst (λ n. IsMoveAt watched n last) (sym (c.len.ensures ∙ c.pop.new.self.ok.0)) (last_fits watched plan last (subst (λ (m : APlan). IsPlanOf watched m) c.in-Some.ensures.items c.loop-last.invariant.0))

pub loop-last-preserved : goal.loop-last-preserved
loop-last-preserved c =
    let watched = c.loop-last.watched.items in
    let plan = c.pop.new.self.items in
    let last = c.in-Some.last in
    let all = c.in-Some.ensures.items in
    let next : c.commit_at.new.watched.items ≡ carried_at watched (length plan) last = c.commit_at.ensures ∙ ap (λ n. carried_at watched n last) (c.len.ensures ∙ c.pop.new.self.ok.0) in (
      subst (λ (w : AnObserver). IsPlanOf w plan) (sym next) (others_fit watched plan last (subst (λ (m : APlan). IsPlanOf watched m) all c.loop-last.invariant.0)),
      ap (λ (w : AnObserver). carried w plan) next ∙ sym (carried_last watched plan last) ∙ ap (carried watched) (sym all) ∙ c.loop-last.invariant.1,
    )

pub returns : goal.returns
returns c =
    let watched = c.loop-last.watched.items in
    let none = empty_is c.loop-last.moves.items (sym c.loop-last.moves.ok.0 ∙ c.in_default.ensures.cases.0) in
    sym (carried_nothing watched) ∙ ap (carried watched) (sym none) ∙ c.loop-last.invariant.1
