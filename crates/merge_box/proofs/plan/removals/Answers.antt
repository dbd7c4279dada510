use Rattle.std.proofs.Common.{None, cond, ap, sym, subst, ◌∙◌}
use Rattle.map_model.specs.Maps.{IsSorted}
use Rattle.map_model.specs.MapLaws.{sorted-nil}
use Rattle.merge_model.specs.Publishing.{last_news}
use Rattle.ejson_value.specs.Key.{key_cmp}
use Rattle.ejson_value.specs.Changes.{news_of}
use Rattle.merge_box.proofs.Listing.{found_listed, nothing_listed}
use Rattle.merge_box.proofs.Plans.{gone, last_removed, unlisted_news}
use Rattle.merge_box.proofs.plan.removals.Goals as goal

pub returns-in-None-clause-last : goal.returns-in-None-clause-last
returns-in-None-clause-last c = λ k.
    ap (λ news. last_news key_cmp (news_of news) k) c.new.ensures
    ∙ sym (unlisted_news c.args.index.now.entries c.args.sub k (nothing_listed c.args.index.now.entries c.args.sub (sym c.in-None.ensures.value) k))

pub returns-in_ok-news-in-Some-clause-last : goal.returns-in_ok-news-in-Some-clause-last
returns-in_ok-news-in-Some-clause-last c = λ k.
    ap (λ es. last_news key_cmp es k) c.in_ok-news-in-Some.ensures.keys
    ∙ last_removed c.in-Some.keys.now.keys k
    ∙ sym (ap (λ b. cond b gone None) (found_listed c.args.index.now.entries c.args.sub c.in-Some.keys.now c.in-Some.ensures.value k))

pub returns-in-None-clause-by_key : goal.returns-in-None-clause-by_key
returns-in-None-clause-by_key c = subst (λ ns. IsSorted key_cmp (news_of ns)) (sym c.new.ensures) (sorted-nil key_cmp)
