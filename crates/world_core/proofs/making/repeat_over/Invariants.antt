use Rattle.world_core.specs.Visit.{visit}
use Rattle.world_core.proofs.Repeating.{IsAgain, left_for}
use Rattle.world_core.proofs.making.repeat_over.Given as goal

abbrev pub invariant-loop-made : goal.invariant-loop-made
invariant-loop-made l = IsAgain l.act (visit l.fn.machine l.fn.connection l.fn.news) (visit l.fn.machine l.connection l.news) l.made

abbrev pub decreases-loop-made : goal.decreases-loop-made
decreases-loop-made l = left_for l.act (visit l.fn.machine l.connection l.news)
