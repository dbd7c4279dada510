use Rattle.std.proofs.Common.{◌∙◌}
use Rattle.minimongo.proofs.Holding.{let_go_step}
use Rattle.minimongo.proofs.originals.let_all_go.Goals as goal

pub loop-key-preserved : goal.loop-key-preserved
loop-key-preserved c = λ k.
    let_go_step c.args.number c.as_slice-key-items.result.now c.loop-key.key-index c.key-item.result c.loop-key.saved.entries c.let_go.new.saved.entries c.key-item.is c.loop-key-test.true c.let_go.ensures k
    ∙ c.loop-key.invariant k
