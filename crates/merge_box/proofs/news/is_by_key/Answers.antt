use Rattle.std.proofs.Common.{sym, subst}
use Rattle.map_model.specs.Maps.{IsSorted}
use Rattle.ejson_value.specs.Key.{key_cmp}
use Rattle.ejson_value.specs.Changes.{news_of}
use Rattle.merge_box.proofs.InOrder.{sorted_none}
use Rattle.merge_box.proofs.news.is_by_key.Goals as goal

pub returns-in-None : goal.returns-in-None
returns-in-None c = λ _. sorted_none c.args.news.now c.in-None.ensures.cases

pub returns-in-Some : goal.returns-in-Some
returns-in-Some c = λ rises. subst (λ ns. IsSorted key_cmp (news_of ns)) (sym c.in-Some.ensures.cases.0) (c.rise_from.ensures rises)
