use Rattle.std.specs.Prelude.{Result, Ok, Err, IfOk}
use Rattle.std.proofs.Common.{◌≡◌, ap, sym, ◌∙◌}
use Rattle.value_model.specs.Val.{Entries, Fields, fields_of, entries_of}
use Rattle.value_model.specs.ValLaws.{entries_of-fields_of}
use Rattle.publication.specs.Projected.{projected}
use Rattle.live_observer.proofs.shown.projected.Goals as goal

as_entries : {E : Type 0} (r : Result Entries E) (fs : Fields) → IfOk r (λ es. fields_of es ≡ fs) → IfOk r (λ es. es ≡ entries_of fs)
as_entries (Ok es) fs h = sym (entries_of-fields_of es) ∙ ap entries_of h
as_entries (Err e) fs h = h

pub returns : goal.returns
returns c = as_entries c.project.result (projected c.args.projection.now (fields_of c.args.doc.now)) c.project.ensures
