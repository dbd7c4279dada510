use Rattle.std.proofs.Common.{[], Option, Some, sym, ap, ◌∙◌}
use Rattle.value_model.specs.Val.{Entries}
use Rattle.value_model.specs.ValLaws.{entries_of-fields_of}
use Rattle.ddp_messages.specs.Forms.{fields_of_value}
use Rattle.ddp_messages.specs.Places.{document_there}
use Rattle.ddp_messages.specs.Plain.{or_default_in}
use Rattle.ddp_messages.proofs.plain.document_told.Goals as goal

pub returns-in_ok-copy-in-Some : goal.returns-in_ok-copy-in-Some
returns-in_ok-copy-in-Some c =
    ap (λ (o : Option Entries). or_default_in [] fields_of_value (document_there o)) c.in-Some.is
    ∙ ap (λ (es : Entries). Some es) (entries_of-fields_of c.in-Some.doc ∙ sym c.in_ok-copy-in-Some.ensures)
