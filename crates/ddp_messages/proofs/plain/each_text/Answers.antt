use Rattle.std.proofs.Common.{arith}
use Rattle.ddp_messages.specs.Plain.{text_in}
use Rattle.ddp_messages.proofs.PlainLaws.{no_value_yet, one_more_value}
use Rattle.ddp_messages.proofs.plain.each_text.Goals as goal

pub loop-value-init : goal.loop-value-init
loop-value-init c = no_value_yet text_in c.args.values.now c.new-texts.result c.new-texts.ensures

pub loop-value-preserved : goal.loop-value-preserved
loop-value-preserved c =
    one_more_value text_in c.args.values.now c.loop-value.value-index c.value-item.result c.in_ok-text.field-0 c.loop-value.texts c.push.new.self
    c.value-item.is (omega arith) c.in_ok-text.ensures c.in_ok-push.ensures.ok c.loop-value.invariant
