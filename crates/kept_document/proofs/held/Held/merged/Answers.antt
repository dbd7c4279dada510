use Rattle.std.proofs.Common.{◌≡◌, IfOk, ap, sym, subst, ◌∙◌}
use Rattle.merge_model.specs.Kept.{merged_fields}
use Rattle.kept_document.specs.Forms.{kept_of}
use Rattle.kept_document.proofs.Alone.{merged-alone}
use Rattle.kept_document.proofs.held.Held.merged.Goals as goal

pub returns-in-One : goal.returns-in-One
returns-in-One c = subst (λ d. IfOk c.copy.result (λ doc. doc ≡ d))
    (sym (ap (λ e. merged_fields e.fields) (sym c.self.view_is ∙ ap kept_of c.in-One.is) ∙ merged-alone c.in-One.sub c.in-One.doc)) c.copy.ensures
