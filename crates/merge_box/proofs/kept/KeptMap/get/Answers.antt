use Rattle.std.proofs.Common.{Some, option_map, unwrap_or, ap, sym, ◌∙◌}
use Rattle.map_model.specs.Maps.{at}
use Rattle.merge_model.specs.Kept.{nothing_kept}
use Rattle.ejson_value.specs.Key.{key_cmp}
use Rattle.merge_box.proofs.Slots.{docs_found, docs_lacking, named_there, some_named}
use Rattle.merge_box.proofs.kept.KeptMap.get.Goals as goal

pub returns-in-None : goal.returns-in-None
returns-in-None c =
    sym (docs_lacking c.self.inside.places.entries c.self.inside.slots c.args.key.now (sym c.in-None.ensures.value))
    ∙ ap (λ v. at key_cmp v.docs c.args.key.now) c.self.view_is

pub index-requires : goal.index-requires
index-requires c =
    let slot = c.in-Some.slot.now in
    some_named c.self.inside.slots slot c.args.key.now (named_there c.self.inside.places.entries c.self.inside.slots c.self.invariant c.args.key.now slot (sym c.in-Some.ensures.value))

pub returns-in-Some : goal.returns-in-Some
returns-in-Some c =
    let slot = c.in-Some.slot.now in
    sym (ap (λ x. Some (unwrap_or (option_map (λ s. s.held) x) nothing_kept)) c.index.ensures)
    ∙ sym (docs_found c.self.inside.places.entries c.self.inside.slots c.args.key.now slot (sym c.in-Some.ensures.value))
    ∙ ap (λ v. at key_cmp v.docs c.args.key.now) c.self.view_is
