use Rattle.std.proofs.Common.{length}
use Rattle.replay_core.proofs.Batches.{HasRead}
use Rattle.replay_core.proofs.tasks.read_all.Given as goal

abbrev pub invariant-loop-rest : goal.invariant-loop-rest
invariant-loop-rest l = HasRead l.lines l.read.items l.rest

abbrev pub decreases-loop-rest : goal.decreases-loop-rest
decreases-loop-rest l = length l.rest
