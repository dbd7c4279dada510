use Rattle.std.proofs.Common.{sym, subst₂}
use Rattle.kept_document.specs.declared.held.Change.TheVariants.{Part}
use Rattle.kept_document.specs.Held.{KeptDoc, IsHeld, SameDoc}
use Rattle.kept_document.specs.Changes.{with_change}
use Rattle.kept_document.proofs.Places.{take_same, held_same}
use Rattle.kept_document.proofs.shared.Shared.take.Goals as goal

held_of : goal.After-len-len → KeptDoc
held_of c = record { publishers = c.self.inside.publishers.items; fields = c.self.inside.fields.entries }

part_of : goal.After-len-len → KeptDoc
part_of c = record { publishers = c.part.inside.publishers.items; fields = c.part.inside.fields.entries }

taken_of : goal.After-len-len → KeptDoc
taken_of c = record { publishers = c.part.inside.publishers.items; fields = c.take_fields.new.fields.entries }

is_taken : (c : goal.After-len-len) → SameDoc (with_change (held_of c) (Part (part_of c))) (taken_of c)
unfolding held_of part_of taken_of
is_taken c = take_same (held_of c) (part_of c) c.take_fields.new.fields.entries c.take_fields.ensures

is_held : (c : goal.After-len-len) → IsHeld (taken_of c)
unfolding held_of part_of taken_of
is_held c = held_same (with_change (held_of c) (Part (part_of c))) (taken_of c) (is_taken c) c.len-len.ensures.ordered (subst₂ (λ a b. IsHeld (with_change a (Part b))) (sym c.self.view_is) (sym c.part.view_is) c.requires.held)

pub invariant_of-self : goal.invariant_of-self
unfolding taken_of
invariant_of-self c = record { held = is_held c; shared = c.part.invariant.shared }

pub returns : goal.returns
unfolding held_of part_of taken_of
returns c = subst₂ (λ a b. SameDoc (with_change a (Part b)) (taken_of c)) c.self.view_is c.part.view_is (is_taken c)
