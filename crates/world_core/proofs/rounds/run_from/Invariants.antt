use Rattle.std.proofs.Common.{◌≡◌}
use Rattle.world_core.specs.Kept.{seen}
use Rattle.world_core.specs.Runs.{IsRun, behind_all}
use Rattle.world_core.proofs.Workers.{left_from}
use Rattle.world_core.proofs.rounds.run_from.Given as goal

abbrev pub invariant-loop-run : goal.invariant-loop-run
invariant-loop-run l = IsRun (seen l.inside) l.from l.run.names.items × (l.run.from ≡ behind_all l.from l.run.names.items)

abbrev pub decreases-loop-run : goal.decreases-loop-run
decreases-loop-run l = left_from l.run.from l.inside.busy l.inside.present
