use Rattle.std.proofs.Common.{Some, option_and_then, ap, ◌∙◌}
use Rattle.value_model.specs.ValLaws.{entries_of-fields_of}
use Rattle.ejson_value.specs.View.{view}
use Rattle.ejson_value.specs.declared.value.Value.{Value}
use Rattle.ddp_messages.specs.Forms.{fields_of_value}
use Rattle.ddp_messages.proofs.fields.document.Goals as goal

pub returns-in-Object : goal.returns-in-Object
returns-in-Object c =
    ap (option_and_then fields_of_value) (c.in_ok-doc.ensures ∙ ap (λ (v : Value). Some (view v)) c.in-Object.is) ∙ ap Some (entries_of-fields_of c.in-Object.doc)
