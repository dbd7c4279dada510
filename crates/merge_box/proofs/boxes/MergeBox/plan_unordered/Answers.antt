use Rattle.std.proofs.Common.{sym, ap, subst, ◌∙◌}
use Rattle.map_model.specs.Maps.{IsSorted}
use Rattle.merge_model.specs.Publishing.{last_news}
use Rattle.ejson_value.specs.Key.{key_cmp}
use Rattle.ejson_value.specs.Changes.{news_of}
use Rattle.merge_box.specs.Words.{seen_in, said_all}
use Rattle.merge_box.proofs.MakePlan.{map_ok, same_news}
use Rattle.merge_box.proofs.boxes.MergeBox.plan_unordered.Goals as goal

pub plan_unknown-requires : goal.plan_unknown-requires
plan_unknown-requires c = subst (λ ns. IsSorted key_cmp (news_of ns)) (sym c.as_slice.ensures) c.in_ok-last.ensures.by_key

pub returns-clause-planned : goal.returns-clause-planned
returns-clause-planned c =
    let news = news_of c.args.news.now in
    map_ok c.plan_unknown.result _ _ (λ words planned.
    same_news c.args.sub news (news_of c.as_slice.result.now) c.plan_unknown.new.self (said_all (seen_in c.args.self.now.kept) news words.items) c.plan_unknown.ensures.whole
    (λ k. ap (λ ns. last_news key_cmp (news_of ns) k) c.as_slice.ensures ∙ c.in_ok-last.ensures.last k) (planned news)) c.plan_unknown.ensures.planned

pub returns-clause-words : goal.returns-clause-words
returns-clause-words c = map_ok c.plan_unknown.result _ _ (λ words are texts. are (news_of c.args.news.now) texts) c.plan_unknown.ensures.words
