use Rattle.std.specs.Prelude.{IfOk, codes}
use Rattle.std.proofs.Common.{◌≡◌, sym, subst}
use Rattle.value_model.specs.Val.{Entries, fields_of}
use Rattle.value_model.specs.ValLaws.{entries_of-fields_of}
use Rattle.value_model.specs.Branches.{field_of}
use Rattle.ejson_value.specs.View.{view}
use Rattle.ejson_value.specs.declared.value.Value.{Value}
use Rattle.program_model.specs.Run.{next_id, new_by, new_of}
use Rattle.program_run.specs.Progress.{seen}
use Rattle.program_run.proofs.documents.new_of.Goals as goal

pub returns-in-Object : goal.returns-in-Object
returns-in-Object c =
    let next = next_id (seen c.args.run.now) c.args.collection.now in
    let es = c.in-Object.fields in
    subst (λ (v : Value). IfOk c.new_by.result (λ new. new ≡ new_of next (view v))) (sym c.in-Object.is)
    (subst (λ (fields : Entries). IfOk c.new_by.result (λ new. new ≡ new_by next fields (field_of (fields_of es) (codes "_id")))) (sym (entries_of-fields_of es)) c.new_by.ensures)
