use Rattle.world_core.specs.Visit.{visit}
use Rattle.world_core.proofs.Stepping.{AreSteppedTill}
use Rattle.world_core.proofs.making.steps.Given as goal

abbrev pub invariant-loop-k : goal.invariant-loop-k
invariant-loop-k l = AreSteppedTill l.calls l.k-index (visit l.fn.machine l.fn.connection l.fn.news) (visit l.machine l.connection l.news) l.made
