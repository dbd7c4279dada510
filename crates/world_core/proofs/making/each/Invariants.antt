use Rattle.world_core.specs.Visit.{visit}
use Rattle.world_core.proofs.Repeating.{AreMadeTill}
use Rattle.world_core.proofs.making.each.Given as goal

abbrev pub invariant-loop-act : goal.invariant-loop-act
invariant-loop-act l = AreMadeTill l.acts l.act-index (visit l.fn.machine l.fn.connection l.fn.news) (visit l.fn.machine l.connection l.news) l.made
