use Rattle.std.proofs.Common.{◌≡◌, ◌+◌, List, [], map, length, refl, ap, sym, subst, ◌∙◌}
use Rattle.std.specs.Arc.{arc_value}
use Rattle.std.proofs.lemmas.List.{length-map}
use Rattle.ejson_value.specs.Changes.{news_of}
use Rattle.publication.specs.Published.{published}
use Rattle.multiplexer.specs.declared.joining.Part.{Part}
use Rattle.multiplexer.specs.Inside.{seen_entry}
use Rattle.multiplexer.specs.Known.{AreKnown}
use Rattle.multiplexer.specs.Leading.{News, IsLead}
use Rattle.multiplexer.specs.Joining.{put_all}
use Rattle.multiplexer.specs.Telling.{news_in}
use Rattle.multiplexer.specs.Parts.{news_of_parts, AreKnownParts, AreNewKnown}
use Rattle.multiplexer.proofs.Joins.{put_leads}
use Rattle.multiplexer.proofs.Putting.{all_new}
use Rattle.multiplexer.proofs.joining.put_together.Goals as goal

pub returns-clause-leads : goal.returns-clause-leads
returns-clause-leads c = λ cursors C from differ.
    let ones = map seen_entry c.args.all.now in
    let all = map news_in ones in
    let news = news_of (arc_value c.in_ok-news-2.news) in
    let is : news ≡ put_all [] all =
    ap news_of c.in_ok-news-2.ensures.ok ∙ (c.in_ok-news.ensures ∙ (c.in_ok-put_all.ensures.news ∙ ap (λ (ps : List Part). put_all (news_of_parts ps) all) c.new-parts.ensures)) in
    let many : length all ≡ length c.args.all.now = length-map ones news_in ∙ length-map c.args.all.now seen_entry in
    subst (λ n. IsLead (published cursors (C from)) (published cursors (C (from + n))) news) many (put_leads cursors C from all news is differ)

pub returns-clause-known : goal.returns-clause-known
returns-clause-known c = λ cursors C from differ known.
    let ones = map seen_entry c.args.all.now in
    let before = published cursors (C from) in
    let none = sym c.new-parts.ensures in
    let new = subst (λ (ps : List Part). AreNewKnown before (news_of_parts ps) ones) none (all_new cursors C before from [] ones (λ key unnamed. refl) differ known) in
    let parts = c.in_ok-put_all.ensures.known before (subst (AreKnownParts before) none tt) new in
    subst (λ (news : News). AreKnown before news c.in_ok-texts.texts) (sym (ap news_of c.in_ok-news-2.ensures.ok ∙ c.in_ok-news.ensures)) (c.in_ok-texts.ensures before parts)
