use Rattle.std.proofs.Common.{arith}
use Rattle.ejson_value.proofs.Puts.{clear_step}
use Rattle.ejson_value.proofs.editing.clear.Goals as goal

pub loop-left-preserved : goal.loop-left-preserved
loop-left-preserved c = (
  omega (arith, c.loop-left.invariant.0),
  clear_step c.args.doc.now c.args.names.now c.loop-left.left c.index-names-left.result c.loop-left.doc c.remove.new.self c.loop-left-test.true c.loop-left.invariant.0 c.index-names-left.is
      c.loop-left.invariant.1 c.in_ok-remove.ensures.removed,
)
