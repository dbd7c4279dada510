use Rattle.std.proofs.Common.{arith}
use Rattle.client_core.proofs.Printed.{next_call}
use Rattle.client_core.proofs.lines.push_calls.Goals as goal

pub loop-call-preserved : goal.loop-call-preserved
loop-call-preserved c = record {
  told = omega arith;
  left =
      next_call c.loop-call.lines c.push_call.new.lines _ c.args.calls.now c.loop-call.call-index _ c.loop-call.number _ c.call-item.result c.loop-call-test.true (omega arith) (omega arith) c.call-item.is c.loop-call.invariant.left
      c.in_ok-push_call.ensures;
}
