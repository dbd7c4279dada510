use Rattle.std.proofs.Common.{[], sym, ap, subst, ◌∙◌}
use Rattle.map_model.specs.Maps.{IsSorted}
use Rattle.merge_model.specs.Publishing.{last_news}
use Rattle.merge_model.specs.Kept.{has, kept_at}
use Rattle.ejson_value.specs.Key.{key_cmp}
use Rattle.merge_box.specs.Index.{lists_of, is_listed}
use Rattle.ejson_value.specs.Changes.{news_of}
use Rattle.merge_box.specs.Words.{seen_in, said_all}
use Rattle.merge_box.proofs.MakePlan.{map_ok, drop_is}
use Rattle.merge_box.proofs.Places.{kept_same}
use Rattle.merge_box.proofs.boxes.MergeBox.plan_drop.Goals as goal

pub returns-clause-planned : goal.returns-clause-planned
returns-clause-planned c =
    let lists = lists_of c.self.inside.index.entries in
    let kept = c.self.inside.kept.docs in
    let box = c.plan_unknown.new.self in
    map_ok c.plan_unknown.result _ _ (λ words planned.
    drop_is c.args.sub (news_of c.as_slice.result.now) box (said_all (seen_in c.args.self.now.kept) [] words.items) (is_listed lists c.args.sub) c.plan_unknown.ensures.kept c.plan_unknown.ensures.whole
    (λ k. ap (λ n. last_news key_cmp (news_of n) k) c.as_slice.ensures ∙ c.in_ok-news.ensures.last k)
    (λ k there. c.self.invariant.0.listed k c.args.sub
    (ap (has c.args.sub) (sym (kept_same kept k c.self.invariant.0.by_key (c.self.invariant.0.held k)).publishers ∙ ap (λ b. (kept_at key_cmp b.kept k).publishers) c.self.view_is ∙ ap (λ m. (kept_at key_cmp m k).publishers) (sym c.plan_unknown.ensures.same)) ∙ there))
    (planned [])) c.plan_unknown.ensures.planned

pub returns-clause-words : goal.returns-clause-words
returns-clause-words c = map_ok c.plan_unknown.result _ _ (λ words are. are [] []) c.plan_unknown.ensures.words

pub plan_unknown-requires : goal.plan_unknown-requires
plan_unknown-requires c = subst (λ ns. IsSorted key_cmp (news_of ns)) (sym c.as_slice.ensures) c.in_ok-news.ensures.by_key
