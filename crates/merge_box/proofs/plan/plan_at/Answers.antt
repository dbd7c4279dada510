use Rattle.std.proofs.Common.{IfOk, unwrap_or, ap, sym, subst, ◌∙◌}
use Rattle.merge_model.specs.Kept.{has, nothing_kept}
use Rattle.kept_document.specs.Held.{KeptDoc}
use Rattle.slab.specs.Slab.{with_value}
use Rattle.merge_box.specs.Index.{lists_of}
use Rattle.merge_box.specs.Inside.{IsNext}
use Rattle.merge_box.proofs.Slots.{state_of, kept_found, held_written, written_grown}
use Rattle.merge_box.proofs.plan.plan_at.Goals as goal

pub plan_held-requires : goal.plan_held-requires
plan_held-requires c = λ there.
    c.requires.listed (ap (λ (e : KeptDoc). has c.args.sub e.publishers) (kept_found c.kept.inside.places.entries c.kept.inside.slots c.kept.invariant c.args.kept.now c.args.slot c.index_mut-slot.result.now c.args.publish.now.key c.kept.view_is c.index_mut-slot.ensures.value c.requires.slot) ∙ there)

pub returns-clause-grown : goal.returns-clause-grown
returns-clause-grown c =
    let places = c.kept.inside.places.entries in
    let slots = c.kept.inside.slots in
    let s = c.index_mut-slot.result.now in
    let held = c.plan_held.new.held in
    written_grown c.args.kept.now (state_of places (with_value slots c.args.slot (record { key = s.key; held = held }))) c.args.publish.now.key s.held held
    (held_written places slots c.kept.invariant c.args.slot s held c.args.kept.now c.args.publish.now.key c.index_mut-slot.ensures.value c.kept.view_is c.requires.slot) c.plan_held.ensures.grown

pub returns-clause-others : goal.returns-clause-others
returns-clause-others c =
    (held_written c.kept.inside.places.entries c.kept.inside.slots c.kept.invariant c.args.slot c.index_mut-slot.result.now c.plan_held.new.held c.args.kept.now c.args.publish.now.key
    c.index_mut-slot.ensures.value c.kept.view_is c.requires.slot).others

pub returns-clause-planned : goal.returns-clause-planned
returns-clause-planned c =
    let written = held_written c.kept.inside.places.entries c.kept.inside.slots c.kept.invariant c.args.slot c.index_mut-slot.result.now c.plan_held.new.held c.args.kept.now c.args.publish.now.key
    c.index_mut-slot.ensures.value c.kept.view_is c.requires.slot in
    subst (λ e. IfOk c.plan_held.result (IsNext c.args.sub c.args.texts.now c.args.place c.args.publish.now.key c.args.publish.now.new e (lists_of c.plan_held.new.index.entries) c.args.words.now.items c.plan_held.new.words.items))
    (sym (ap (λ x. unwrap_or x nothing_kept) written.after)) c.plan_held.ensures.planned
