use Rattle.std.proofs.Common.{subst, sym}
use Rattle.value_model.specs.Val.{vals_of}
use Rattle.value_model.specs.Valid.{AreValues}
use Rattle.value_model.specs.ValidLaws.{AreValues-append}
use Rattle.ejson_value.specs.View.{view}
use Rattle.ejson_value.proofs.Built.{pushed}
use Rattle.ejson_value.proofs.value.Items.push.Goals as goal

pub invariant_of-self : goal.invariant_of-self
invariant_of-self c =
    let olds = rw (← c.in-Some-get_mut.ensures.value) at rw c.in-Some.is at c.self.invariant in
    pushed c.put_behind.result _ _ (view c.args.value) c.put_behind.ensures.ok c.put_behind.ensures.err olds c.known.ensures

pub hold-requires : goal.hold-requires
hold-requires c =
    let olds = subst (λ vs. AreValues (vals_of vs)) (sym c.in_ok-items.ensures.same) c.copies.ensures.known in
    subst (λ vs. AreValues (vals_of vs)) (sym c.in_ok-put_behind.ensures.ok) (AreValues-append _ _ olds c.known.ensures)
