use Rattle.std.proofs.Common.{[], ◌∷◌}
use Rattle.std.proofs.lemmas.Result.{err_from_is_err_and}
use Rattle.connection.specs.world_model.Settle.{ups, recvs, handles, begins}
use Rattle.world_core.specs.Visit.{visit}
use Rattle.world_core.proofs.PhaseVisits.{led_on}
use Rattle.world_core.proofs.Passing.{first_made, first_idle}
use Rattle.world_core.proofs.phases.asks.Goals as goal

pub returns-in_err-handled : goal.returns-in_err-handled
returns-in_err-handled c =
    let v = visit c.args.machine.now c.args.connection.now c.args.news.now in
    let w = visit c.texts_up.new.machine c.texts_up.new.connection c.texts_up.new.news in
    let x = visit c.requests.new.machine c.requests.new.connection c.requests.new.news in
    let p = err_from_is_err_and c.from_residual-in_err-handled.result c.from_residual-in_err-handled.ensures.1 in
    rw p.1 (led_on v w x c.in_ok-up.ensures.led c.in_err-handled.ensures)

pub returns-then-up : goal.returns-then-up
returns-then-up c =
    let v = visit c.args.machine.now c.args.connection.now c.args.news.now in
    let w = visit c.texts_up.new.machine c.texts_up.new.connection c.texts_up.new.news in
    let x = visit c.requests.new.machine c.requests.new.connection c.requests.new.news in
    first_made (ups ∷ recvs ∷ []) (handles ∷ begins ∷ []) v w x c.in_ok-up.up c.in_ok-handled.handled c.if-up.true c.in_ok-up.ensures c.in_ok-handled.ensures

pub returns-else-up : goal.returns-else-up
returns-else-up c =
    let v = visit c.args.machine.now c.args.connection.now c.args.news.now in
    let w = visit c.texts_up.new.machine c.texts_up.new.connection c.texts_up.new.news in
    let x = visit c.requests.new.machine c.requests.new.connection c.requests.new.news in
    first_idle (ups ∷ recvs ∷ []) (handles ∷ begins ∷ []) v w x c.in_ok-up.up c.in_ok-handled.handled c.if-up.false c.in_ok-up.ensures c.in_ok-handled.ensures
