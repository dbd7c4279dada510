use Rattle.replay_core.specs.TruthLaws.{replays_are_true}
use Rattle.replay_core.proofs.replayer.PlainReplayer.replay.Goals as goal

pub returns-clause-true_run : goal.returns-clause-true_run
returns-clause-true_run c = replays_are_true c.args.input.now
