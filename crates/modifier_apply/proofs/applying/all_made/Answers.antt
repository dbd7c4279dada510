use Rattle.std.proofs.Common.{suc, drop, Ok, ap, sym, ◌∙◌}
use Rattle.std.proofs.Math.Seq.{drop-cons}
use Rattle.std.proofs.lemmas.Result.{err_from_is_err_and}
use Rattle.value_model.specs.Val.{Entries}
use Rattle.modifier_apply.specs.declared.modifier.Update.{Update}
use Rattle.modifier_apply.specs.View.{change_view, changes_view}
use Rattle.modifier_apply.specs.Modified.{document_changed, all_made}
use Rattle.modifier_apply.proofs.Paths.{all_made-fails}
use Rattle.modifier_apply.proofs.Walks.{passed_on}
use Rattle.modifier_apply.proofs.applying.all_made.Goals as goal

pub returns-in_err-made-2 : goal.returns-in_err-made-2
returns-in_err-made-2 c =
    let p = err_from_is_err_and c.from_residual-in_err-made-2.result c.from_residual-in_err-made-2.ensures.1 in
    let us = c.args.updates.now in
    let i = c.loop-update.update-index in
    let u = c.update-item.result in
    let made = c.loop-update.made in
    rw (p.1, p.2) (passed_on (λ (es : Entries). es) (λ (es : Entries). es) c.in_err-made-2.field-0.0 (document_changed (change_view u).edit (change_view u).path made) (all_made (changes_view us) (Ok c.args.doc.now)) c.in_err-made-2.ensures
    (λ x refused.
    sym c.loop-update.invariant
    ∙ (ap (λ ws. all_made (changes_view ws) (Ok made)) (drop-cons us i u c.loop-update-test.true)
    ∙ (ap (λ (w : Update). all_made (changes_view (drop (suc i) us)) (document_changed (change_view w).edit (change_view w).path made)) (sym c.update-item.is)
    ∙ (ap (λ o. all_made (changes_view (drop (suc i) us)) o) refused ∙ all_made-fails (changes_view (drop (suc i) us)) x)))))
