use Rattle.std.proofs.Common.{◌≡◌, None, IfOk, ap, sym, subst, ◌∙◌}
use Rattle.value_model.specs.Doc.{get}
use Rattle.ejson_value.specs.View.{doc_fields}
use Rattle.ejson_value.proofs.Sizes.{none_removed}
use Rattle.ejson_value.proofs.value.Doc.without.Goals as goal

pub returns-in-None-get : goal.returns-in-None-get
returns-in-None-get c =
    let held = c.deref.ensures ∙ (ap (λ o. doc_fields o) (sym c.in-Some.is) ∙ c.self.view_is) in
    let none = subst (λ es. get es c.args.name.now ≡ None) held (sym c.in-None-get.ensures) in
    subst (λ es. IfOk c.counted.result (λ doc. doc ≡ es)) (sym (none_removed c.args.name.now c.args.self.now none)) c.counted.ensures
