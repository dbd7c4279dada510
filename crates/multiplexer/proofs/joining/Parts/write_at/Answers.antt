use Rattle.std.proofs.Common.{None, ap, sym, subst, ◌∙◌, slice_set}
use Rattle.map_model.specs.Maps.{IsSorted}
use Rattle.map_model.specs.MapLaws.{sorted-put}
use Rattle.ejson_value.specs.Key.{key_cmp, key_order}
use Rattle.multiplexer.specs.declared.joining.Part.{Part}
use Rattle.multiplexer.specs.Parts.{news_of_part, news_of_parts, IsKnownPart, AreKnownParts}
use Rattle.multiplexer.proofs.Places.{set_written}
use Rattle.multiplexer.proofs.Sources.{all_with}
use Rattle.multiplexer.proofs.joining.Parts.write_at.Goals as goal

pub invariant_of-self : goal.invariant_of-self
invariant_of-self c =
    let ps = c.self.inside.parts.items in
    let one = c.args.one in
    let part : Part = record { one = one; text = None } in
    let is = rw (← c.self.view_is) at c.requires in
    let same = ap (λ (p : Part). news_of_parts (slice_set ps c.args.place p)) c.replace.ensures.after ∙ set_written news_of_part ps c.args.place part c.self.invariant is in
    subst (IsSorted key_cmp) (sym same) (sorted-put key_order (news_of_parts ps) one.key one.new c.self.invariant)

pub returns-clause-news : goal.returns-clause-news
returns-clause-news c =
    let ps = c.self.inside.parts.items in
    let part : Part = record { one = c.args.one; text = None } in
    let is = rw (← c.self.view_is) at c.requires in
    rw (← c.self.view_is) (ap (λ (p : Part). news_of_parts (slice_set ps c.args.place p)) c.replace.ensures.after ∙ set_written news_of_part ps c.args.place part c.self.invariant is)

pub returns-clause-known : goal.returns-clause-known
returns-clause-known c = λ before known.
    let ps = c.self.inside.parts.items in
    let part : Part = record { one = c.args.one; text = None } in
    subst (λ (p : Part). AreKnownParts before (slice_set ps c.args.place p)) (sym c.replace.ensures.after)
    (all_with (IsKnownPart before) ps c.args.place part (subst (AreKnownParts before) (sym c.self.view_is) known) tt)
