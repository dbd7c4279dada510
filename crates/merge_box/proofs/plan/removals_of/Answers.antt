use Rattle.std.proofs.Common.{◌∷◌, [], ◌++◌, None, ap, ap₂, sym, subst, ◌∙◌}
use Rattle.map_model.specs.Maps.{IsSorted}
use Rattle.ejson_value.specs.Key.{key_cmp}
use Rattle.ejson_value.specs.Changes.{news_of}
use Rattle.kept_document.proofs.Walks.{walk_on, walk_end}
use Rattle.merge_box.proofs.Plans.{news_push, gone_push, removed, removed_sorted}
use Rattle.merge_box.proofs.plan.removals_of.Goals as goal

pub loop-key-preserved : goal.loop-key-preserved
loop-key-preserved c =
    let walk = c.loop-key.invariant in
    let key = c.in-Some.key.now in
    record {
      can_next = tt;
      is_finite = tt;
      done = walk.done ++ key ∷ [];
      whole = walk_on c.into_iter-key-iterator.result walk.done key c.loop-key.key-iterator c.next.new.self walk.whole c.in-Some.ensures.steps;
      made = ap news_of c.in_ok-push.ensures.ok ∙ news_push c.loop-key.news (record { key = c.in_ok-key.key; new = None })
          ∙ ap₂ (λ es k. es ++ (k, None) ∷ []) walk.made c.in_ok-key.ensures ∙ gone_push walk.done key;
    }

pub returns-clause-keys : goal.returns-clause-keys
returns-clause-keys c =
    let walk = c.loop-key.invariant in
    walk.made ∙ ap removed (walk_end c.into_iter-key-iterator.result walk.done c.loop-key.key-iterator walk.whole c.in-None.ensures.steps.0 ∙ c.into_iter-key-iterator.ensures.into_iter_gives ∙ c.iter-key-items.ensures.rest)

pub returns-clause-by_key : goal.returns-clause-by_key
returns-clause-by_key c =
    let walk = c.loop-key.invariant in
    let all = walk.made ∙ ap removed (walk_end c.into_iter-key-iterator.result walk.done c.loop-key.key-iterator walk.whole c.in-None.ensures.steps.0 ∙ c.into_iter-key-iterator.ensures.into_iter_gives ∙ c.iter-key-items.ensures.rest) in
    subst (λ es. IsSorted key_cmp es) (sym all) (removed_sorted c.args.keys.now.keys c.iter-key-items.ensures.ordered)
