use Rattle.std.specs.Prelude.{IfOk, codes}
use Rattle.std.proofs.Common.{◌≡◌, [], sym, subst}
use Rattle.value_model.specs.Doc.{get}
use Rattle.value_model.specs.Val.{Entries}
use Rattle.value_model.specs.ValLaws.{entries_of-fields_of}
use Rattle.ejson_value.specs.View.{view}
use Rattle.ejson_value.specs.declared.value.Value.{Value}
use Rattle.program_model.specs.Run.{new_by, new_of}
use Rattle.history_model.specs.Operations.{insert_of}
use Rattle.operation_reading.proofs.documents.insert_taken.Goals as goal

pub returns-in-Object : goal.returns-in-Object
returns-in-Object c =
    let collection = c.args.collection.now in
    let es = c.in-Object.doc in
    subst (λ (v : Value). IfOk c.insert_without_id.result (λ o. o ≡ insert_of collection (new_of [] (view v)))) (sym c.in-Object.is)
    (subst (λ (fields : Entries). IfOk c.insert_without_id.result (λ o. o ≡ insert_of collection (new_by [] fields (get fields (codes "_id"))))) (sym (entries_of-fields_of es)) c.insert_without_id.ensures)
