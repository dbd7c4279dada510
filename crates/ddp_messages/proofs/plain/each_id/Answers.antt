use Rattle.std.proofs.Common.{arith}
use Rattle.ddp_messages.specs.Plain.{id_in}
use Rattle.ddp_messages.proofs.PlainLaws.{no_value_yet, one_more_value}
use Rattle.ddp_messages.proofs.plain.each_id.Goals as goal

pub loop-value-init : goal.loop-value-init
loop-value-init c = no_value_yet id_in c.args.values.now c.new-ids.result c.new-ids.ensures

pub loop-value-preserved : goal.loop-value-preserved
loop-value-preserved c =
    one_more_value id_in c.args.values.now c.loop-value.value-index c.value-item.result c.in_ok-id.field-0 c.loop-value.ids c.push.new.self
    c.value-item.is (omega arith) c.in_ok-id.ensures c.in_ok-push.ensures.ok c.loop-value.invariant
