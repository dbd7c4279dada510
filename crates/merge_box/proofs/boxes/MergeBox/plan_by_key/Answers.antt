use Rattle.std.proofs.Common.{ap, ap₂, sym, subst, ◌∙◌}
use Rattle.ejson_value.specs.declared.key.Key.{Key}
use Rattle.merge_box.specs.Index.{lists_of}
use Rattle.merge_box.specs.Inside.{Changes, changes_of, docs_of, carried_out, IsInside}
use Rattle.ejson_value.specs.Changes.{news_of}
use Rattle.merge_box.proofs.MakePlan.{inside_grown, kept_grown, counted_grown, planned_grown, inside_planned, plan_is, on_err}
use Rattle.merge_box.specs.State.{KeptDocs}
use Rattle.merge_box.specs.Words.{seen_in, said_all, AreWords}
use Rattle.merge_box.proofs.Places.{seen_docs, kept_same}
use Rattle.merge_box.proofs.Words.{said_same, words_on}
use Rattle.merge_box.proofs.Naming.{changes_stay, named_stay, all_stay}
use Rattle.merge_box.proofs.boxes.MergeBox.plan_by_key.Goals as goal

pub invariant_of-self : goal.invariant_of-self
invariant_of-self c =
    let kept = c.self.inside.kept in
    let items = c.self.inside.changes.items in
    let changes = changes_of kept.keys items in
    let lists = lists_of c.self.inside.index.entries in
    let grown = c.plan_news-made.new.kept in
    let more = lists_of c.plan_news-made.new.index.entries in
    let grows = c.plan_news-made.ensures.grown in
    let stay = all_stay kept.keys grown.keys grows.names items c.self.invariant.1 in (
      subst (λ (cs : Changes). IsInside grown.docs cs more) (sym (changes_stay kept.keys grown.keys items stay)) (inside_grown kept.docs changes lists c.self.invariant.0 grown.docs more grows.docs c.len-len.ensures.by_key c.plan_news-made.ensures.listed),
      named_stay kept.keys grown.keys items stay,
      c.self.invariant.2 ∙ sym (counted_grown kept.docs changes lists c.self.invariant.0 grown.docs more grows.docs c.len-len.ensures.by_key c.plan_news-made.ensures.listed),
    )

pub returns-in_err-changes-clause-same : goal.returns-in_err-changes-clause-same
returns-in_err-changes-clause-same c =
    let kept = c.self.inside.kept in
    let changes = changes_of kept.keys c.self.inside.changes.items in
    let lists = lists_of c.self.inside.index.entries in
    let grown = c.plan_news-made.new.kept.docs in
    let more = lists_of c.plan_news-made.new.index.entries in
    kept_grown kept.docs changes lists c.self.invariant.0 grown more c.plan_news-made.ensures.grown.docs c.len-len.ensures.by_key c.plan_news-made.ensures.listed ∙ ap (λ b. b.kept) c.self.view_is

pub returns-in_err-changes-clause-err : goal.returns-in_err-changes-clause-err
returns-in_err-changes-clause-err c =
    let kept = c.self.inside.kept in
    let items = c.self.inside.changes.items in
    let changes = changes_of kept.keys items in
    let lists = lists_of c.self.inside.index.entries in
    let grown = c.plan_news-made.new.kept in
    let more = lists_of c.plan_news-made.new.index.entries in
    let grows = c.plan_news-made.ensures.grown in
    let listed = c.plan_news-made.ensures.listed in
    let stay = all_stay kept.keys grown.keys grows.names items c.self.invariant.1 in
    on_err c.from_residual.result _ (ap₂ (λ a b. record { kept = a; planned = b }) (kept_grown kept.docs changes lists c.self.invariant.0 grown.docs more grows.docs c.len-len.ensures.by_key listed)
    (ap (λ (cs : Changes). docs_of (carried_out cs grown.docs)) (changes_stay kept.keys grown.keys items stay)
    ∙ planned_grown kept.docs changes lists c.self.invariant.0 grown.docs more grows.docs (inside_grown kept.docs changes lists c.self.invariant.0 grown.docs more grows.docs c.len-len.ensures.by_key listed))
    ∙ c.self.view_is)

pub returns-clause-same : goal.returns-clause-same
returns-clause-same c =
    let kept = c.self.inside.kept in
    let changes = changes_of kept.keys c.self.inside.changes.items in
    let lists = lists_of c.self.inside.index.entries in
    let grown = c.plan_news-made.new.kept.docs in
    let more = lists_of c.plan_news-made.new.index.entries in
    kept_grown kept.docs changes lists c.self.invariant.0 grown more c.plan_news-made.ensures.grown.docs c.len-len.ensures.by_key c.plan_news-made.ensures.listed ∙ ap (λ b. b.kept) c.self.view_is

pub returns-clause-planned : goal.returns-clause-planned
returns-clause-planned c =
    let kept = c.self.inside.kept in
    let lists = lists_of c.self.inside.index.entries in
    let grown = c.plan_news-made.new.kept in
    let changes = changes_of grown.keys c.in_ok-changes.changes.items in
    let more = lists_of c.plan_news-made.new.index.entries in
    let made = c.in_ok-changes.ensures in
    let now = inside_planned c.args.sub (news_of c.args.news.now) grown.docs (changes_of kept.keys c.self.inside.changes.items) changes more
    (inside_grown kept.docs (changes_of kept.keys c.self.inside.changes.items) lists c.self.invariant.0 grown.docs more c.plan_news-made.ensures.grown.docs c.len-len.ensures.by_key c.plan_news-made.ensures.listed) made.by_key made.planned made.room made.listed_here in
    let words = c.plan_news-made.new.words.items in
    let news = news_of c.args.news.now in
    plan_is grown.docs changes more now c.args.sub news (said_all (seen_in c.args.self.now.kept) news words) made.planned
    (ap (λ (m : KeptDocs). said_all (seen_in m) news words) (sym (ap (λ b. b.kept) c.self.view_is))
    ∙ said_same (seen_in (docs_of kept.docs)) (seen_in kept.docs) (seen_docs kept.docs c.self.invariant.0.by_key c.self.invariant.0.held) news words ∙ made.told)

pub returns-clause-words : goal.returns-clause-words
returns-clause-words c =
    let kept = c.self.inside.kept.docs in
    let news = news_of c.args.news.now in
    let words = c.plan_news-made.new.words.items in
    let inside = c.self.invariant.0 in
    subst (λ (m : KeptDocs). AreWords c.args.sub m news c.args.texts.now words) (ap (λ b. b.kept) c.self.view_is)
    (words_on c.args.sub kept (docs_of kept) news c.args.texts.now (λ (k : Key). (kept_same kept k inside.by_key (inside.held k)).publishers) (seen_docs kept inside.by_key inside.held) words c.in_ok-changes.ensures.words)

pub plan_news-made-requires-clause-held : goal.plan_news-made-requires-clause-held
plan_news-made-requires-clause-held c = c.self.invariant.0.held

pub plan_news-made-requires-clause-none : goal.plan_news-made-requires-clause-none
plan_news-made-requires-clause-none c = c.new-words.ensures.items

pub invariant_of-self-2 : goal.invariant_of-self-2
invariant_of-self-2 c =
    let kept = c.self.inside.kept in
    let before = changes_of kept.keys c.self.inside.changes.items in
    let lists = lists_of c.self.inside.index.entries in
    let grown = c.plan_news-made.new.kept in
    let more = lists_of c.plan_news-made.new.index.entries in
    let grows = c.plan_news-made.ensures.grown.docs in
    let made = c.in_ok-changes.ensures in (
      inside_planned c.args.sub (news_of c.args.news.now) grown.docs before (changes_of grown.keys c.in_ok-changes.changes.items) more
          (inside_grown kept.docs before lists c.self.invariant.0 grown.docs more grows c.len-len.ensures.by_key c.plan_news-made.ensures.listed) made.by_key made.planned made.room made.listed_here,
      made.named,
      c.self.invariant.2 ∙ sym (counted_grown kept.docs before lists c.self.invariant.0 grown.docs more grows c.len-len.ensures.by_key c.plan_news-made.ensures.listed),
    )

pub plan_news-made-requires-clause-listed : goal.plan_news-made-requires-clause-listed
plan_news-made-requires-clause-listed c = λ k there. c.self.invariant.0.listed k c.args.sub there
