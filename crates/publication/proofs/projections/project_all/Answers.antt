use Rattle.std.specs.Prelude.{IfOk}
use Rattle.std.proofs.Common.{◌≡◌, subst}
use Rattle.value_model.specs.Val.{Entries, fields_of}
use Rattle.publication.specs.Parts.{paths_in}
use Rattle.publication.specs.Projected.{fields_projected}
use Rattle.publication.proofs.SortedPaths.{below-zero}
use Rattle.publication.proofs.projections.project_all.Goals as goal

pub returns : goal.returns
returns c =
    subst (λ ps. IfOk c.project_fields.result (λ (es : Entries). fields_of es ≡ fields_projected c.args.including ps (fields_of c.args.doc.now))) (below-zero (paths_in c.args.paths.now)) c.project_fields.ensures
