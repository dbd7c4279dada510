use Rattle.std.proofs.Common.{◌&&◌, ap, sym, subst, ◌∙◌}
use Rattle.std.specs.List.{list_all}
use Rattle.std.proofs.lemmas.List.Folds.{list_all-append}
use Rattle.value_model.specs.Val.{Val}
use Rattle.ejson_value.specs.View.{views}
use Rattle.selector_match.specs.Holds.{has_equal}
use Rattle.selector_match.specs.Asked.{subject_branches}
use Rattle.selector_match.specs.Operands.{IsRising}
use Rattle.selector_match.proofs.Marks.{all_alike, in_parts, rising-front, rising-back}
use Rattle.selector_match.proofs.marking.equals_each.Goals as goal

pub loop-rest-init : goal.loop-rest-init
loop-rest-init c = (c.rising-rest.ensures.rising, all_alike (λ v. has_equal v (subject_branches c.args.subject)) c.args.operands.now (views c.rising-rest.result.now) c.rising-rest.ensures.alike)

pub equals_each_of-requires-clause-rising : goal.equals_each_of-requires-clause-rising
equals_each_of-requires-clause-rising c =
    let parts = in_parts 1024 c.loop-rest.rest.now c.split_at.result.0.now c.split_at.result.1.now c.split_at.ensures.front c.split_at.ensures.back in
    rising-front (views c.split_at.result.0.now) (views c.split_at.result.1.now) (subst IsRising (sym parts) c.loop-rest.invariant.0)

pub loop-rest-preserved : goal.loop-rest-preserved
loop-rest-preserved c =
    let test = λ (v : Val). has_equal v (subject_branches c.args.subject) in
    let front = views c.split_at.result.0.now in
    let back = views c.split_at.result.1.now in
    let parts = in_parts 1024 c.loop-rest.rest.now c.split_at.result.0.now c.split_at.result.1.now c.split_at.ensures.front c.split_at.ensures.back in (
      rising-back front back (subst IsRising (sym parts) c.loop-rest.invariant.0),
      c.loop-rest.invariant.1 ∙ (ap (λ vs. list_all test vs) (sym parts) ∙ (list_all-append test front back ∙ ap (λ b. b && list_all test back) (sym c.equals_each_of.ensures ∙ c.if-not-equals_each_of.false))),
    )
