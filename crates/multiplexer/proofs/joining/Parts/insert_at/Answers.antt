use Rattle.std.proofs.Common.{Some, List, ap, sym, subst, ◌∙◌}
use Rattle.map_model.specs.Maps.{set, IsSorted}
use Rattle.map_model.specs.MapLaws.{sorted-put}
use Rattle.ejson_value.specs.Key.{key_cmp, key_order}
use Rattle.multiplexer.specs.declared.joining.Part.{Part}
use Rattle.multiplexer.specs.Joining.{IsGapFor}
use Rattle.multiplexer.specs.Parts.{news_of_part, news_of_parts, IsKnownPart, AreKnownParts}
use Rattle.multiplexer.proofs.Places.{set_inserted}
use Rattle.multiplexer.proofs.Putting.{all_inserted}
use Rattle.multiplexer.proofs.joining.Parts.insert_at.Goals as goal

pub invariant_of-self-2 : goal.invariant_of-self-2
invariant_of-self-2 c =
    let ps = c.self.inside.parts.items in
    let part = c.args.part in
    let gap = subst (λ (qs : List Part). IsGapFor (news_of_parts qs) part.one.key c.args.place) (sym c.self.view_is) c.requires in
    let same = ap news_of_parts c.in_ok-insert.ensures.items ∙ set_inserted news_of_part ps c.args.place part gap in
    subst (IsSorted key_cmp) (sym same) (sorted-put key_order (news_of_parts ps) part.one.key part.one.new c.self.invariant)

pub returns-clause-news : goal.returns-clause-news
returns-clause-news c =
    let ps = c.self.inside.parts.items in
    let part = c.args.part in
    let gap = subst (λ (qs : List Part). IsGapFor (news_of_parts qs) part.one.key c.args.place) (sym c.self.view_is) c.requires in
    ap news_of_parts c.in_ok-insert.ensures.items ∙ (set_inserted news_of_part ps c.args.place part gap ∙ ap (λ (qs : List Part). set key_cmp (news_of_parts qs) part.one.key (Some part.one.new)) c.self.view_is)

pub returns-clause-known : goal.returns-clause-known
returns-clause-known c = λ before known is.
    let ps = c.self.inside.parts.items in
    subst (AreKnownParts before) (sym c.in_ok-insert.ensures.items) (all_inserted (IsKnownPart before) ps c.args.place c.args.part (subst (AreKnownParts before) (sym c.self.view_is) known) is)
