use Rattle.world_core.specs.News.{AreNews}
use Rattle.world_core.specs.Kept.{seen}
use Rattle.world_core.proofs.VisitsLemmas.{IsOn}
use Rattle.world_core.proofs.Workers.{left_from}
use Rattle.world_core.proofs.rounds.round.Given as goal

abbrev pub invariant-loop-from : goal.invariant-loop-from
invariant-loop-from g l = IsOn (seen l.fn.inside) (seen l.inside) l.from l.made × AreNews l.inside.machine l.news

abbrev pub decreases-loop-from : goal.decreases-loop-from
decreases-loop-from g l = left_from l.from l.inside.busy l.inside.present
