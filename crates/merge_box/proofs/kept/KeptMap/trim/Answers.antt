use Rattle.std.proofs.Common.{unwrap_or, ap, subst, sym, ◌∙◌}
use Rattle.merge_model.specs.Kept.{nothing_kept}
use Rattle.kept_document.specs.Held.{is_shared}
use Rattle.merge_box.specs.Slots.{named, key_in}
use Rattle.merge_box.proofs.Slots.{state_of, IsGone, found_named, gone_is, gone_placed}
use Rattle.merge_box.proofs.kept.KeptMap.trim.Goals as goal

pub invariant_of-self : goal.invariant_of-self
invariant_of-self c = gone_placed c.self.inside.places.entries c.self.inside.slots c.self.invariant c.remove-slot.new.self.entries c.remove-key.new.self c.args.slot c.remove-key.result c.remove-key.ensures.value c.remove-key.ensures.updates c.remove-slot.ensures.updates.0

gone : (c : goal.After-drop-key-2) → IsGone c.args.self.now (state_of c.remove-slot.new.self.entries c.remove-key.new.self) (key_in c.args.self.now.keys c.args.slot) c.remove-key.result.held
gone c =
    let new = state_of c.remove-slot.new.self.entries c.remove-key.new.self in
    let s = c.remove-key.result in
    let key = key_in c.args.self.now.keys c.args.slot in
    subst (λ k. IsGone c.args.self.now new k s.held) (found_named c.self.inside.slots c.args.slot s key c.remove-key.ensures.value (ap (λ v. named v.keys c.args.slot) c.self.view_is ∙ c.requires))
    (subst (λ v. IsGone v new s.key s.held) c.self.view_is
    (gone_is c.self.inside.places.entries c.self.inside.slots c.self.invariant c.remove-slot.new.self.entries c.remove-key.new.self c.args.slot s c.remove-key.ensures.value c.remove-key.ensures.updates c.remove-slot.ensures.updates.0))

pub returns-clause-was : goal.returns-clause-was
returns-clause-was c = c.is_shared.ensures ∙ sym (ap (λ x. is_shared (unwrap_or x nothing_kept).publishers) (gone c).before)

pub returns-clause-gone : goal.returns-clause-gone
returns-clause-gone c = (gone c).gone

pub returns-clause-others : goal.returns-clause-others
returns-clause-others c = (gone c).others

pub returns-clause-names : goal.returns-clause-names
returns-clause-names c = (gone c).names
