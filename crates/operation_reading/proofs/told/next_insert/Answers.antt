use Rattle.std.proofs.Common.{codes}
use Rattle.ejson_value.specs.View.{view}
use Rattle.operation_reading.proofs.TellLaws.{one_read}
use Rattle.operation_reading.proofs.told.next_insert.Goals as goal

pub returns : goal.returns
returns c =
    one_read (codes "insert") c.args.collection.now c.args.reader.now c.next_operand.new.reader (view c.in_ok-document.document) c.in_ok-insert_taken.field-0
    c.in_ok-document.ensures c.in_ok-insert_taken.ensures
