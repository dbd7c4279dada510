use Rattle.std.proofs.Common.{subst, sym}
use Rattle.value_model.specs.Val.{vals_of}
use Rattle.value_model.specs.Valid.{AreValues}
use Rattle.value_model.specs.ValidLaws.{AreValues-remove}
use Rattle.ejson_value.proofs.value.Items.remove.Goals as goal

pub invariant_of-self : goal.invariant_of-self
invariant_of-self c =
    let olds = rw (← c.in-Some-get_mut.ensures.value) at rw c.in-Some.is at c.self.invariant in
    subst (λ vs. AreValues (vals_of vs)) (sym c.take_at.ensures.removed) (AreValues-remove _ c.args.place olds)

pub hold-requires : goal.hold-requires
hold-requires c =
    let olds = subst (λ vs. AreValues (vals_of vs)) (sym c.in_ok-items.ensures.same) c.copies.ensures.known in
    subst (λ vs. AreValues (vals_of vs)) (sym c.take_at-value.ensures.removed) (AreValues-remove _ c.args.place olds)
