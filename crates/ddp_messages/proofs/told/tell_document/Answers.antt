use Rattle.ddp_messages.proofs.PlaceLaws.{document_stands}
use Rattle.ddp_messages.proofs.told.tell_document.Goals as goal

pub returns-in-Object-clause-read : goal.returns-in-Object-clause-read
returns-in-Object-clause-read c =
    rw c.count.ensures (document_stands c.args.reader.now c.next_value.new.reader c.in_ok-doc.field-0 c.in-Object.doc c.in-Object.is c.in_ok-doc.ensures.read)
