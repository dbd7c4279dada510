use Rattle.std.proofs.Common.{◌∙◌}
use Rattle.history_log.proofs.Turns.{made_turn}
use Rattle.history_log.proofs.changes.made.Goals as goal

pub loop-one-preserved : goal.loop-one-preserved
loop-one-preserved c =
    made_turn c.loop-one.rows c.put_changes.new.rows c.args.logged.now c.loop-one.one-index c.one-item.result c.loop-one-test.true c.one-item.is c.in_ok-put_changes.ensures ∙ c.loop-one.invariant
