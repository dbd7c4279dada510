use Rattle.std.proofs.Common.{sym, subst}
use Rattle.merge_model.specs.Publishing.{apply}
use Rattle.ejson_value.specs.Changes.{news_of}
use Rattle.known_texts.specs.Places.{Texts}
use Rattle.merge_box.specs.State.{Told, IsPlan}
use Rattle.merge_box.specs.Words.{NewsList, seen_in, AreWords}
use Rattle.merge_box.proofs.MakePlan.{map_ok, both_ok}
use Rattle.merge_box.proofs.Words.{unknown_words, unknown_said}
use Rattle.merge_box.proofs.boxes.MergeBox.plan_unknown.Goals as goal

pub returns-clause-planned : goal.returns-clause-planned
returns-clause-planned c =
    let kept = c.args.self.now.kept in
    let news = news_of c.args.news.now in
    both_ok c.plan_by_key-made.result _ _ _ (λ words planned are (others : NewsList).
    subst (λ (told : Told). IsPlan (apply c.args.sub news) c.plan_by_key-made.new.self told)
    (sym (unknown_said c.args.sub kept news (seen_in kept) others words.items (subst (λ (texts : Texts). AreWords c.args.sub kept news texts words.items) c.new-texts.ensures are))) planned)
    c.plan_by_key-made.ensures.planned c.plan_by_key-made.ensures.words

pub returns-clause-words : goal.returns-clause-words
returns-clause-words c =
    let kept = c.args.self.now.kept in
    let news = news_of c.args.news.now in
    map_ok c.plan_by_key-made.result _ _ (λ words are others texts.
    unknown_words c.args.sub kept news others texts words.items (subst (λ (t : Texts). AreWords c.args.sub kept news t words.items) c.new-texts.ensures are)) c.plan_by_key-made.ensures.words
