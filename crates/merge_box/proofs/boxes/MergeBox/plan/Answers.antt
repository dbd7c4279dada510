use Rattle.std.proofs.Common.{List, IfOk, subst}
use Rattle.ejson_value.specs.declared.change.Publish.{Publish}
use Rattle.ejson_value.specs.Changes.{news_of}
use Rattle.merge_box.specs.Words.{AreWords}
use Rattle.merge_box.proofs.MakePlan.{map_ok}
use Rattle.merge_box.proofs.boxes.MergeBox.plan.Goals as goal

pub returns-else-is_by_key-clause-words : goal.returns-else-is_by_key-clause-words
returns-else-is_by_key-clause-words c =
    subst (λ (ns : List Publish). IfOk c.plan_unordered.result (λ words. AreWords c.args.sub c.args.self.now.kept (news_of ns) c.args.texts.now words.items)) c.as_slice-news.ensures
    (map_ok c.plan_unordered.result _ _ (λ words are. are c.args.texts.now) c.plan_unordered.ensures.words)
