use Rattle.std.proofs.Common.{[], ◌∷◌}
use Rattle.std.proofs.lemmas.Result.{err_from_is_err_and}
use Rattle.connection.specs.world_model.Settle.{ups, recvs, handles, begins, steps, learns, loadings, advancings, sendings, takings}
use Rattle.world_core.specs.Visit.{visit}
use Rattle.world_core.proofs.PhaseVisits.{led_on}
use Rattle.world_core.proofs.Passing.{first_made, first_idle}
use Rattle.world_core.proofs.phases.round.Goals as goal

pub returns-in_err-told : goal.returns-in_err-told
returns-in_err-told c =
    let v = visit c.args.machine.now c.args.connection.now c.args.news.now in
    let w = visit c.serves.new.machine c.serves.new.connection c.serves.new.news in
    let x = visit c.serves.new.machine c.tells.new.connection c.tells.new.news in
    let p = err_from_is_err_and c.from_residual-in_err-told.result c.from_residual-in_err-told.ensures.1 in
    rw p.1 (led_on v w x c.in_ok-served.ensures.led c.in_err-told.ensures)

pub returns-then-served : goal.returns-then-served
returns-then-served c =
    let v = visit c.args.machine.now c.args.connection.now c.args.news.now in
    let w = visit c.serves.new.machine c.serves.new.connection c.serves.new.news in
    let x = visit c.serves.new.machine c.tells.new.connection c.tells.new.news in
    first_made (ups ∷ recvs ∷ handles ∷ begins ∷ steps ∷ learns ∷ []) (loadings ∷ advancings ∷ sendings ∷ takings ∷ []) v w x c.in_ok-served.served c.in_ok-told.told c.if-served.true c.in_ok-served.ensures c.in_ok-told.ensures

pub returns-else-served : goal.returns-else-served
returns-else-served c =
    let v = visit c.args.machine.now c.args.connection.now c.args.news.now in
    let w = visit c.serves.new.machine c.serves.new.connection c.serves.new.news in
    let x = visit c.serves.new.machine c.tells.new.connection c.tells.new.news in
    first_idle (ups ∷ recvs ∷ handles ∷ begins ∷ steps ∷ learns ∷ []) (loadings ∷ advancings ∷ sendings ∷ takings ∷ []) v w x c.in_ok-served.served c.in_ok-told.told c.if-served.false c.in_ok-served.ensures c.in_ok-told.ensures
