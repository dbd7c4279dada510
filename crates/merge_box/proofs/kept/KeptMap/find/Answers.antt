use Rattle.std.proofs.Common.{is_some, ap, sym, ◌∙◌}
use Rattle.map_model.specs.Maps.{at}
use Rattle.ejson_value.specs.Key.{key_cmp}
use Rattle.merge_box.specs.Slots.{named}
use Rattle.merge_box.proofs.Slots.{docs_found, docs_lacking, named_there}
use Rattle.merge_box.proofs.kept.KeptMap.find.Goals as goal

pub returns-in-None-clause-none : goal.returns-in-None-clause-none
returns-in-None-clause-none c =
    sym (ap (λ v. at key_cmp v.docs c.args.key.now) c.self.view_is)
    ∙ docs_lacking c.self.inside.places.entries c.self.inside.slots c.args.key.now (sym c.in-None.ensures.value)

pub returns-in-Some-clause-named : goal.returns-in-Some-clause-named
returns-in-Some-clause-named c =
    let slot = c.in-Some.slot.now in
    sym (ap (λ v. named v.keys slot) c.self.view_is)
    ∙ named_there c.self.inside.places.entries c.self.inside.slots c.self.invariant c.args.key.now slot (sym c.in-Some.ensures.value)

pub returns-in-Some-clause-room : goal.returns-in-Some-clause-room
returns-in-Some-clause-room c =
    let slot = c.in-Some.slot.now in
    ap is_some (sym (ap (λ v. at key_cmp v.docs c.args.key.now) c.self.view_is)
    ∙ docs_found c.self.inside.places.entries c.self.inside.slots c.args.key.now slot (sym c.in-Some.ensures.value))
