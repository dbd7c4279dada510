use Rattle.std.proofs.Common.{[], ◌∷◌}
use Rattle.connection.specs.world_model.Settle.{handles, begins}
use Rattle.world_core.specs.Visit.{visit}
use Rattle.world_core.proofs.Passing.{first_made, first_idle, repeated, begun}
use Rattle.world_core.proofs.phases.requests.Goals as goal

pub returns-then-handled : goal.returns-then-handled
returns-then-handled c =
    let v = visit c.args.machine.now c.args.connection.now c.args.news.now in
    let w = visit c.repeat.new.machine c.repeat.new.connection c.repeat.new.news in
    let x = visit c.tries.new.machine c.tries.new.connection c.tries.new.news in
    first_made (handles ∷ []) (begins ∷ []) v w x c.in_ok-handled.handled c.in_ok-begun.begun c.if-handled.true (repeated handles v w c.in_ok-handled.handled c.in_ok-handled.ensures) (begun w x c.in_ok-begun.begun c.in_ok-begun.ensures)

pub returns-else-handled : goal.returns-else-handled
returns-else-handled c =
    let v = visit c.args.machine.now c.args.connection.now c.args.news.now in
    let w = visit c.repeat.new.machine c.repeat.new.connection c.repeat.new.news in
    let x = visit c.tries.new.machine c.tries.new.connection c.tries.new.news in
    first_idle (handles ∷ []) (begins ∷ []) v w x c.in_ok-handled.handled c.in_ok-begun.begun c.if-handled.false (repeated handles v w c.in_ok-handled.handled c.in_ok-handled.ensures) (begun w x c.in_ok-begun.begun c.in_ok-begun.ensures)
