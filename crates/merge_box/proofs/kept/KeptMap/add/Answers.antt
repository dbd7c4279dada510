use Rattle.std.proofs.Common.{◌≡◌, Some, cond, is_some, ap, ap₂, sym, subst, ◌∙◌}
use Rattle.std.specs.Ordering.{is_eq}
use Rattle.map_model.specs.Maps.{at}
use Rattle.ejson_value.specs.declared.key.Key.{Key}
use Rattle.ejson_value.specs.Key.{key_cmp}
use Rattle.merge_box.specs.declared.kept.Slot.{Slot}
use Rattle.merge_box.proofs.Slots.{state_of, IsAdded, places_lacking, same_state, same_grown, same_placed, added_is, added_placed}
use Rattle.merge_box.proofs.kept.KeptMap.add.Goals as goal

pub returns-in_err-reserve-clause-grown : goal.returns-in_err-reserve-clause-grown
returns-in_err-reserve-clause-grown c = same_grown c.self.inside.places.entries c.self.inside.slots c.reserve.new.self (ap (λ s. s.slots) c.reserve.ensures.rest_kept) c.args.self.now c.self.view_is

pub returns-in_err-copy-2-clause-grown : goal.returns-in_err-copy-2-clause-grown
returns-in_err-copy-2-clause-grown c = same_grown c.self.inside.places.entries c.self.inside.slots c.reserve.new.self (ap (λ s. s.slots) c.reserve.ensures.rest_kept) c.args.self.now c.self.view_is

pub returns-in_err-insert-clause-grown : goal.returns-in_err-insert-clause-grown
returns-in_err-insert-clause-grown c =
    same_grown c.insert.new.self.entries c.self.inside.slots c.reserve.new.self (ap (λ s. s.slots) c.reserve.ensures.rest_kept) c.args.self.now
    (ap (λ places. state_of places c.self.inside.slots) c.in_err-insert.ensures.err ∙ c.self.view_is)

abbrev slot_of : goal.After-insert_reserved → Slot
slot_of c = record { key = c.in_ok-copy.copy; held = c.new.result }

change : (c : goal.After-insert_reserved) (k : Key) → at key_cmp c.insert.new.self.entries k ≡ cond (is_eq (key_cmp c.in_ok-copy.copy k)) (Some c.insert_reserved.result) (at key_cmp c.self.inside.places.entries k)
change c k = c.in_ok-insert.ensures.updates.0 k
    ∙ ap₂ (λ q slot. cond (is_eq (key_cmp q k)) (Some slot) (at key_cmp c.self.inside.places.entries k)) (c.in_ok-copy-2.ensures ∙ sym c.in_ok-copy.ensures) (c.vacant_key-place.ensures.value ∙ sym c.insert_reserved.ensures.key)

pub invariant_of-self-2 : goal.invariant_of-self-2
invariant_of-self-2 c =
    let places = c.self.inside.places.entries in
    let old = c.self.inside.slots in
    let ready = c.reserve.new.self in
    let same = ap (λ s. s.slots) c.reserve.ensures.rest_kept in
    let none = places_lacking places ready c.in_ok-copy.copy (ap (λ v. at key_cmp v.docs c.in_ok-copy.copy) (same_state places old ready same ∙ c.self.view_is) ∙ ap (at key_cmp c.args.self.now.docs) c.in_ok-copy.ensures ∙ c.requires) in
    added_placed places ready (same_placed places old ready same c.self.invariant) c.insert.new.self.entries c.insert_reserved.new.self c.insert_reserved.result (slot_of c) none
    c.insert_reserved.ensures.was_vacant c.insert_reserved.ensures.updates (change c)

added : (c : goal.After-insert_reserved) → IsAdded c.args.self.now (state_of c.insert.new.self.entries c.insert_reserved.new.self) c.args.key.now
added c =
    let places = c.self.inside.places.entries in
    let old = c.self.inside.slots in
    let ready = c.reserve.new.self in
    let now = c.insert.new.self.entries in
    let new = c.insert_reserved.new.self in
    let same = ap (λ s. s.slots) c.reserve.ensures.rest_kept in
    let state = same_state places old ready same ∙ c.self.view_is in
    let none = places_lacking places ready c.in_ok-copy.copy (ap (λ v. at key_cmp v.docs c.in_ok-copy.copy) state ∙ ap (at key_cmp c.args.self.now.docs) c.in_ok-copy.ensures ∙ c.requires) in
    subst (IsAdded c.args.self.now (state_of now new)) c.in_ok-copy.ensures (subst (λ v. IsAdded v (state_of now new) c.in_ok-copy.copy) state (
    added_is places ready (same_placed places old ready same c.self.invariant) now new c.insert_reserved.result (slot_of c) none
    c.insert_reserved.ensures.was_vacant c.insert_reserved.ensures.updates (change c) c.new.ensures))

pub returns-clause-grown : goal.returns-clause-grown
returns-clause-grown c = (added c).grown

pub returns-clause-others : goal.returns-clause-others
returns-clause-others c = (added c).others

pub returns-clause-room : goal.returns-clause-room
returns-clause-room c = ap is_some (added c).here
