use Rattle.std.proofs.Common.{[], ◌∷◌}
use Rattle.std.proofs.lemmas.Result.{err_from_is_err_and}
use Rattle.connection.specs.world_model.Settle.{ups, recvs, handles, begins, steps, learns}
use Rattle.world_core.specs.Visit.{visit}
use Rattle.world_core.proofs.PhaseVisits.{led_on}
use Rattle.world_core.proofs.Passing.{first_made, first_idle}
use Rattle.world_core.proofs.phases.serves.Goals as goal

pub returns-in_err-called : goal.returns-in_err-called
returns-in_err-called c =
    let v = visit c.args.machine.now c.args.connection.now c.args.news.now in
    let w = visit c.asks.new.machine c.asks.new.connection c.asks.new.news in
    let x = visit c.calls.new.machine c.calls.new.connection c.calls.new.news in
    let p = err_from_is_err_and c.from_residual-in_err-called.result c.from_residual-in_err-called.ensures.1 in
    rw p.1 (led_on v w x c.in_ok-asked.ensures.led c.in_err-called.ensures)

pub returns-then-asked : goal.returns-then-asked
returns-then-asked c =
    let v = visit c.args.machine.now c.args.connection.now c.args.news.now in
    let w = visit c.asks.new.machine c.asks.new.connection c.asks.new.news in
    let x = visit c.calls.new.machine c.calls.new.connection c.calls.new.news in
    first_made (ups ∷ recvs ∷ handles ∷ begins ∷ []) (steps ∷ learns ∷ []) v w x c.in_ok-asked.asked c.in_ok-called.called c.if-asked.true c.in_ok-asked.ensures c.in_ok-called.ensures

pub returns-else-asked : goal.returns-else-asked
returns-else-asked c =
    let v = visit c.args.machine.now c.args.connection.now c.args.news.now in
    let w = visit c.asks.new.machine c.asks.new.connection c.asks.new.news in
    let x = visit c.calls.new.machine c.calls.new.connection c.calls.new.news in
    first_idle (ups ∷ recvs ∷ handles ∷ begins ∷ []) (steps ∷ learns ∷ []) v w x c.in_ok-asked.asked c.in_ok-called.called c.if-asked.false c.in_ok-asked.ensures c.in_ok-called.ensures
