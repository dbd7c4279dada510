use Rattle.std.proofs.Common.{ap, sym, subst, ◌∙◌}
use Rattle.kept_document.specs.Held.{is_shared, IsHeld}
use Rattle.kept_document.specs.Changes.{with_change, HasPlaces}
use Rattle.slab.specs.Slab.{with_value}
use Rattle.merge_box.specs.Slots.{key_in}
use Rattle.merge_box.proofs.Slots.{state_of, kept_found, held_written, written_taken}
use Rattle.merge_box.proofs.plan.take_at.Goals as goal

pub take-requires-clause-places : goal.take-requires-clause-places
take-requires-clause-places c =
    let kept = c.args.kept.now in
    subst (λ e. HasPlaces e c.args.change) (kept_found c.kept.inside.places.entries c.kept.inside.slots c.kept.invariant kept c.args.slot c.index_mut-slot.result.now (key_in kept.keys c.args.slot) c.kept.view_is c.index_mut-slot.ensures.value c.requires.slot) c.requires.ready.places

pub take-requires-clause-held : goal.take-requires-clause-held
take-requires-clause-held c =
    let kept = c.args.kept.now in
    subst (λ e. IsHeld (with_change e c.args.change)) (kept_found c.kept.inside.places.entries c.kept.inside.slots c.kept.invariant kept c.args.slot c.index_mut-slot.result.now (key_in kept.keys c.args.slot) c.kept.view_is c.index_mut-slot.ensures.value c.requires.slot) c.requires.ready.held

pub returns-clause-was : goal.returns-clause-was
returns-clause-was c =
    let kept = c.args.kept.now in
    c.take.ensures.was
    ∙ ap (λ e. is_shared e.publishers) (sym (kept_found c.kept.inside.places.entries c.kept.inside.slots c.kept.invariant kept c.args.slot c.index_mut-slot.result.now (key_in kept.keys c.args.slot) c.kept.view_is c.index_mut-slot.ensures.value c.requires.slot))

pub returns-clause-taken : goal.returns-clause-taken
returns-clause-taken c =
    let kept = c.args.kept.now in
    let places = c.kept.inside.places.entries in
    let slots = c.kept.inside.slots in
    let key = key_in kept.keys c.args.slot in
    let s = c.index_mut-slot.result.now in
    let held = c.take.new.held in
    written_taken kept (state_of places (with_value slots c.args.slot (record { key = s.key; held = held }))) key s.held held c.args.change
    (held_written places slots c.kept.invariant c.args.slot s held kept key c.index_mut-slot.ensures.value c.kept.view_is c.requires.slot) c.take.ensures.same c.take.ensures.held
