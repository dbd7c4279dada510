use Rattle.world_core.specs.Visit.{visit}
use Rattle.world_core.proofs.Answering.{begins, steps}
use Rattle.world_core.proofs.acting.make.Goals as goal

pub returns-in-Begin : goal.returns-in-Begin
returns-in-Begin c = rw c.in-Begin.is (begins (visit c.args.machine.now c.args.connection.now c.args.news.now) c.requires c.begin.new.machine c.begin.new.self c.begin.result c.begin.ensures)

pub returns-in-Step : goal.returns-in-Step
returns-in-Step c = rw c.in-Step.is (steps (visit c.args.machine.now c.args.connection.now c.args.news.now) c.requires c.in-Step.k c.step.new.machine c.step.result c.step.ensures)
