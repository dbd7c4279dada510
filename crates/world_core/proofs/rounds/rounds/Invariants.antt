use Rattle.world_core.specs.News.{AreNews}
use Rattle.world_core.specs.Kept.{seen}
use Rattle.world_core.proofs.VisitsLemmas.{HaveComeTo}
use Rattle.world_core.proofs.rounds.rounds.Given as goal

abbrev pub invariant-loop : goal.invariant-loop
invariant-loop g l = HaveComeTo (seen l.fn.inside) (seen l.inside) × AreNews l.inside.machine l.news
