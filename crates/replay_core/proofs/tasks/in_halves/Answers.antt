use Rattle.replay_core.proofs.Batches.{are_halves}
use Rattle.replay_core.proofs.tasks.in_halves.Goals as goal

pub returns : goal.returns
returns c =
    are_halves c.args.lines.now c.split_lines.result.0.now c.args.place _ c.split_lines.ensures.first c.split_lines.ensures.whole c.split_lines.ensures.lines
    c.split_lines-2.ensures.first c.split_lines-2.ensures.whole c.split_lines-2.ensures.lines
