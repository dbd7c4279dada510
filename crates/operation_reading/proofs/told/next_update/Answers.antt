use Rattle.std.proofs.Common.{◌∙◌}
use Rattle.ejson_value.specs.View.{view}
use Rattle.operation_reading.specs.Tells.{update_name}
use Rattle.operation_reading.proofs.TellLaws.{two_read, update_named}
use Rattle.operation_reading.proofs.told.next_update.Goals as goal

pub returns : goal.returns
returns c =
    let s = view c.in_ok-selector.selector in
    let m = view c.in_ok-modifier.modifier in
    two_read (update_name c.args.all) c.args.collection.now c.args.reader.now c.next_operand.new.reader c.next_operand-2.new.reader s m c.in_ok-update_in.field-0
    c.in_ok-selector.ensures c.in_ok-modifier.ensures (c.in_ok-update_in.ensures ∙ update_named c.args.all c.args.collection.now s m)
