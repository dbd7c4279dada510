use Rattle.std.proofs.Common.{codes}
use Rattle.ejson_value.specs.View.{view}
use Rattle.operation_reading.proofs.TellLaws.{one_read}
use Rattle.operation_reading.proofs.told.next_removal.Goals as goal

pub returns : goal.returns
returns c =
    one_read (codes "remove") c.args.collection.now c.args.reader.now c.next_operand.new.reader (view c.in_ok-selector.selector) c.in_ok-remove_in.field-0
    c.in_ok-selector.ensures c.in_ok-remove_in.ensures
