use Rattle.std.proofs.Common.{sym, ◌∙◌}
use Rattle.replay_core.proofs.Batches.{one_read, all_read}
use Rattle.replay_core.proofs.tasks.read_all.Goals as goal

pub loop-rest-preserved : goal.loop-rest-preserved
loop-rest-preserved c =
    one_read c.args.lines.now c.loop-rest.read.items c.push.new.self.items (record { line = c.first_line.result.0; task = c.in_ok-task.task }) c.loop-rest.rest.now c.first_line.result.1.now
    c.loop-rest.invariant c.in_ok-push.ensures.items c.in_ok-task.ensures c.first_line.ensures.lines c.first_line.ensures.shorter

pub returns : goal.returns
returns c = all_read c.args.lines.now c.loop-rest.read.items c.loop-rest.rest.now c.loop-rest.invariant (sym c.is_empty.ensures ∙ c.loop-rest-test.false)
