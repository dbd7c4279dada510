use Rattle.replay_core.proofs.Batches.{first_read}
use Rattle.replay_core.proofs.tasks.read_lines.Goals as goal

pub returns : goal.returns
returns c =
    first_read c.args.lines.now c.split_lines.result.0.now c.args.place (record { read = c.in_ok-read_all.field-0; rest = c.split_lines.result.1 })
    c.split_lines.ensures.first c.split_lines.ensures.whole c.split_lines.ensures.lines c.in_ok-read_all.ensures
