use Rattle.std.proofs.Common.{cond, Some, ap, ap₂, sym, subst, ◌∙◌}
use Rattle.std.proofs.lemmas.List.{take_all}
use Rattle.std.specs.Ordering.{is_eq}
use Rattle.map_model.specs.Maps.{at, IsSorted}
use Rattle.merge_model.specs.Publishing.{last_news}
use Rattle.ejson_value.specs.Key.{key_cmp}
use Rattle.ejson_value.specs.Changes.{news_of}
use Rattle.std.proofs.Common.{take}
use Rattle.merge_box.proofs.InOrder.{last_of_sorted}
use Rattle.merge_box.proofs.Listing.{either_way}
use Rattle.merge_box.proofs.Plans.{news_step, last_news-push}
use Rattle.merge_box.proofs.news.last_by_key.Goals as goal

pub loop-publish-preserved : goal.loop-publish-preserved
loop-publish-preserved c =
    let before = c.loop-publish.invariant in
    let p = c.publish-item.result in
    let news = c.args.news.now in
    let i = c.loop-publish.publish-index in
    let more = news_step news i p c.publish-item.is c.loop-publish-test.true in
    let old = c.loop-publish.last.entries in
    record {
      last = λ k. c.in_ok-insert.ensures.updates.0 k
          ∙ ap₂ (λ q d. cond (is_eq (key_cmp q k)) (Some d) (at key_cmp old k)) c.in_ok-key.ensures c.in_ok-new.ensures
          ∙ ap₂ (λ b w. cond b (Some p.new) w) (either_way p.key k) (before.last k)
          ∙ sym (ap (λ es. last_news key_cmp es k) more ∙ last_news-push (news_of (take i news)) p.key p.new k);
    }

pub returns-clause-by_key : goal.returns-clause-by_key
returns-clause-by_key c = subst (λ m. IsSorted key_cmp m) (sym c.in_ok-news.ensures) c.len-len.ensures.ordered

pub returns-clause-last : goal.returns-clause-last
returns-clause-last c = λ k.
    ap (λ m. last_news key_cmp m k) c.in_ok-news.ensures ∙ last_of_sorted c.loop-publish.last.entries k c.len-len.ensures.ordered ∙ c.loop-publish.invariant.last k
    ∙ ap (λ ns. last_news key_cmp (news_of ns) k) (take_all c.loop-publish.publish-index c.args.news.now c.loop-publish-test.false)
