use Rattle.stub_simulation.proofs.KeyRows.{put_next}
use Rattle.stub_simulation.proofs.key_set.tree_of.Goals as goal

pub loop-key-preserved : goal.loop-key-preserved
loop-key-preserved c =
    put_next c.args.row.now c.loop-key.key-index c.key-item.result c.loop-key.tree.keys c.put_in_tree.new.tree.keys c.key-item.is c.loop-key-test.true c.requires c.loop-key.invariant c.in_ok-put_in_tree.ensures.ok
