use Rattle.std.proofs.Common.{◌≡◌, [], ◌∙◌, ap, sym, subst}
use Rattle.std.specs.Prelude.{◌↔◌, IsTrue}
use Rattle.std.specs.Ordering.{is_eq}
use Rattle.value_model.specs.Val.{Val, object, Entries, fields_of, entries_of}
use Rattle.value_model.specs.ValLaws.{entries_of-fields_of}
use Rattle.value_model.specs.OrderLaws.{compare_is_eq}
use Rattle.ejson_value.proofs.order.same_documents.Goals as goal

abbrev inside : Val → Entries
inside (object fs) = entries_of fs
inside v = []

pub returns-clause-equal : goal.returns-clause-equal
returns-clause-equal c =
    let a = c.args.a.now in
    let b = c.args.b.now in
    let ties = compare_is_eq (object (fields_of a)) (object (fields_of b)) in
    subst (λ r. IsTrue r ↔ (a ≡ b)) (sym (c.is_eq.ensures ∙ ap is_eq c.compare_docs.ensures))
    (λ h. sym (entries_of-fields_of a) ∙ (ap inside (ties.0 h) ∙ entries_of-fields_of b), λ e. ties.1 (ap (λ es. object (fields_of es)) e))
