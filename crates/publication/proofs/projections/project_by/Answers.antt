use Rattle.std.specs.Prelude.{IfOk}
use Rattle.std.proofs.Common.{◌≡◌, true, false, ap, sym, subst, ◌∙◌}
use Rattle.value_model.specs.Val.{Entries, fields_of}
use Rattle.app_model.specs.Fields.{SameTests}
use Rattle.publication.specs.Parts.{paths_in, paths_of}
use Rattle.publication.specs.Projected.{projected}
use Rattle.publication.proofs.SortedPaths.{same_left}
use Rattle.publication.proofs.projections.project_by.Goals as goal

pub returns-in-Only : goal.returns-in-Only
returns-in-Only c =
    let ps = paths_in c.args.paths.now in
    let fs = fields_of c.args.doc.now in
    let same = subst (λ p. SameTests ps (paths_of p)) c.in-Only.is c.requires.same in
    subst (λ r. IfOk c.project_all.result (λ (es : Entries). fields_of es ≡ r)) (same_left true ps c.in-Only.field-0 fs same ∙ ap (λ p. projected p fs) (sym c.in-Only.is)) c.project_all.ensures

pub returns-in-Without : goal.returns-in-Without
returns-in-Without c =
    let ps = paths_in c.args.paths.now in
    let fs = fields_of c.args.doc.now in
    let same = subst (λ p. SameTests ps (paths_of p)) c.in-Without.is c.requires.same in
    subst (λ r. IfOk c.project_all-in-Without.result (λ (es : Entries). fields_of es ≡ r)) (same_left false ps c.in-Without.field-0 fs same ∙ ap (λ p. projected p fs) (sym c.in-Without.is)) c.project_all-in-Without.ensures
