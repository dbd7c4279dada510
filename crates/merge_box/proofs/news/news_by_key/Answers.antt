use Rattle.std.proofs.Common.{◌≡◌, ◌∷◌, [], ◌++◌, Option, ap, ap₂, ◌∙◌}
use Rattle.value_model.specs.Val.{Entries}
use Rattle.ejson_value.specs.declared.key.Key.{Key}
use Rattle.ejson_value.specs.Changes.{news_of}
use Rattle.kept_document.proofs.Walks.{walk_on, walk_end}
use Rattle.merge_box.proofs.Plans.{news_push}
use Rattle.merge_box.proofs.news.news_by_key.Goals as goal

abbrev entry : Key → Option Entries → Key × Option Entries
entry k d = (k, d)

pair_is : {k q : Key} {d e : Option Entries} → k ≡ q → d ≡ e → entry k d ≡ entry q e
pair_is a b = ap₂ entry a b

pub loop-key-preserved : goal.loop-key-preserved
loop-key-preserved c =
    let walk = c.loop-key.invariant in
    let next = entry c.in-Some.key.now c.in-Some.new.now in
    record {
      can_next = tt;
      is_finite = tt;
      done = walk.done ++ next ∷ [];
      whole = walk_on c.into_iter-key-iterator.result walk.done next c.loop-key.key-iterator c.next.new.self walk.whole c.in-Some.ensures.steps;
      made = ap news_of c.in_ok-push.ensures.ok ∙ news_push c.loop-key.news (record { key = c.in_ok-key.key; new = c.in_ok-new.new })
          ∙ ap₂ (λ es e. es ++ e ∷ []) walk.made (pair_is c.in_ok-key.ensures c.in_ok-new.ensures);
    }

pub returns : goal.returns
returns c =
    let walk = c.loop-key.invariant in
    walk.made ∙ walk_end c.into_iter-key-iterator.result walk.done c.loop-key.key-iterator walk.whole c.in-None.ensures.steps.0 ∙ c.into_iter-key-iterator.ensures.into_iter_gives ∙ c.iter-key-items.ensures.rest
