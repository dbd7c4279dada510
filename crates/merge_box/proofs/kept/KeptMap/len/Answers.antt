use Rattle.std.proofs.Common.{length, ap, sym, subst, ◌∙◌}
use Rattle.std.proofs.lemmas.List.{length-map}
use Rattle.map_model.specs.Maps.{IsSorted}
use Rattle.ejson_value.specs.Key.{key_cmp}
use Rattle.merge_box.specs.Slots.{held_at}
use Rattle.merge_box.proofs.Slots.{docs_sorted}
use Rattle.merge_box.proofs.kept.KeptMap.len.Goals as goal

pub returns-clause-len : goal.returns-clause-len
returns-clause-len c =
    let slots = c.self.inside.slots in
    c.len.ensures.len ∙ sym (length-map c.self.inside.places.entries (λ e. (e.0, held_at slots e.1))) ∙ ap (λ v. length v.docs) c.self.view_is

pub returns-clause-by_key : goal.returns-clause-by_key
returns-clause-by_key c = subst (λ v. IsSorted key_cmp v.docs) c.self.view_is (docs_sorted c.self.inside.places.entries c.self.inside.slots c.len.ensures.ordered)
