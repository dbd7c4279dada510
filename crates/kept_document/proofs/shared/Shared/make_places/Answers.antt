use Rattle.std.proofs.Common.{subst}
use Rattle.kept_document.specs.Held.{KeptDoc, IsDocGrown}
use Rattle.kept_document.proofs.Places.{places_grown}
use Rattle.kept_document.proofs.shared.Shared.make_places.Goals as goal

held_of : goal.After-len-len → KeptDoc
held_of c = record { publishers = c.self.inside.publishers.items; fields = c.self.inside.fields.entries }

grown_of : goal.After-len-len → KeptDoc
grown_of c = record { publishers = c.self.inside.publishers.items; fields = c.make_places-made.new.fields.entries }

is_grown : (c : goal.After-len-len) → IsDocGrown (held_of c) (grown_of c)
unfolding held_of grown_of
is_grown c = places_grown c.self.inside.publishers.items c.self.inside.fields.entries c.make_places-made.new.fields.entries c.make_places-made.ensures.same c.make_places-made.ensures.grows c.len-len.ensures.ordered

pub invariant_of-self : goal.invariant_of-self
unfolding held_of grown_of
invariant_of-self c = record { held = (is_grown c).held c.self.invariant.held; shared = c.self.invariant.shared }

pub returns-clause-grown : goal.returns-clause-grown
unfolding held_of grown_of
returns-clause-grown c = subst (λ e. IsDocGrown e (grown_of c)) c.self.view_is (is_grown c)
