use Rattle.std.proofs.Common.{List, [], map, ap, ◌∙◌}
use Rattle.std.specs.Arc.{arc_value}
use Rattle.ejson_value.specs.Changes.{news_of}
use Rattle.multiplexer.specs.declared.entry.Told.{Told}
use Rattle.multiplexer.specs.declared.joining.Part.{Part}
use Rattle.multiplexer.specs.Inside.{seen_entry}
use Rattle.multiplexer.specs.Joining.{put_all}
use Rattle.multiplexer.specs.Leading.{News}
use Rattle.multiplexer.specs.Parts.{news_of_parts}
use Rattle.multiplexer.specs.Telling.{AnEntry, news_in}
use Rattle.multiplexer.proofs.Joins.{all_joined, map_untold}
use Rattle.multiplexer.proofs.joining.lead.Goals as goal

pub returns : goal.returns
returns c = λ sorted.
    let parts = c.args.parts.now in
    let all = map (λ part. news_of (arc_value part)) parts in
    let same = ap (λ (xs : List Told). map news_in (map seen_entry xs)) c.as_slice.ensures.value ∙ (ap (λ (ones : List AnEntry). map news_in ones) c.in_ok-all.ensures ∙ map_untold (λ part. arc_value part) parts) in
    let named = c.in_ok-put_all.ensures.news ∙ (ap (λ (ps : List Part). put_all (news_of_parts ps) (map news_in (map seen_entry c.as_slice.result.now))) c.new-told.ensures ∙ ap (λ (news : List News). put_all [] news) same) in
    all_joined all (news_of_parts c.put_all.new.self) c.listed.result c.listed.ensures named sorted
