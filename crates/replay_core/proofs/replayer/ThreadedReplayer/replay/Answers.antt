use Rattle.replay_core.specs.TruthLaws.{replays_are_true}
use Rattle.replay_core.proofs.replayer.ThreadedReplayer.replay.Goals as goal

pub returns-clause-true_run : goal.returns-clause-true_run
returns-clause-true_run g c = replays_are_true c.args.input.now
