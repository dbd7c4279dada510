use Rattle.std.proofs.Common.{option_copied, is_some, ap, subst, sym, ◌∙◌}
use Rattle.kept_document.specs.declared.held.Change.TheVariants.{Part}
use Rattle.kept_document.specs.Held.{KeptDoc, publishers_with}
use Rattle.kept_document.specs.Changes.{IsChange}
use Rattle.kept_document.proofs.KeptAfter.{part_is, held_part}
use Rattle.kept_document.proofs.shared.Shared.part.Goals as goal

made_of : goal.After-len-len → KeptDoc
made_of c = record { publishers = c.args.publishers.items; fields = c.in_ok-fields.fields.entries }

held_of : goal.After-len-len → KeptDoc
held_of c = record { publishers = c.self.inside.publishers.items; fields = c.self.inside.fields.entries }

is_change : (c : goal.After-len-len) → IsChange c.args.sub (option_copied c.args.doc) (held_of c) (Part (made_of c))
unfolding made_of held_of
is_change c = part_is c.args.sub (option_copied c.args.doc) (held_of c) (made_of c) c.self.invariant.held c.self.invariant.shared c.len-len.ensures.ordered
    (c.requires.after ∙ ap (λ e. publishers_with c.args.sub (is_some (option_copied c.args.doc)) e.publishers) (sym c.self.view_is))
    c.in_ok-fields.ensures

pub invariant_of-result : goal.invariant_of-result
unfolding made_of held_of
invariant_of-result c = record { held = held_part (held_of c) (made_of c) (is_change c).held c.len-len.ensures.ordered; shared = c.requires.shared }

pub returns : goal.returns
unfolding made_of held_of
returns c = subst (λ old. IsChange c.args.sub (option_copied c.args.doc) old (Part (made_of c))) c.self.view_is (is_change c)
