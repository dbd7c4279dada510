use Rattle.std.proofs.Common.{[], ◌∷◌}
use Rattle.std.proofs.lemmas.Result.{err_from_is_err_and}
use Rattle.connection.specs.world_model.Settle.{loadings, advancings, sendings, takings}
use Rattle.world_core.specs.Visit.{visit}
use Rattle.world_core.proofs.PhaseVisits.{led_on}
use Rattle.world_core.proofs.Passing.{first_made, first_idle}
use Rattle.world_core.proofs.downward.tells.Goals as goal

pub returns-in_err-sent : goal.returns-in_err-sent
returns-in_err-sent c =
    let v = visit c.args.machine.now c.args.connection.now c.args.news.now in
    let w = visit c.args.machine.now c.shows.new.connection c.shows.new.news in
    let x = visit c.args.machine.now c.texts_down.new.connection c.texts_down.new.news in
    let p = err_from_is_err_and c.from_residual-in_err-sent.result c.from_residual-in_err-sent.ensures.1 in
    rw p.1 (led_on v w x c.in_ok-shown.ensures.led c.in_err-sent.ensures)

pub returns-then-shown : goal.returns-then-shown
returns-then-shown c =
    let v = visit c.args.machine.now c.args.connection.now c.args.news.now in
    let w = visit c.args.machine.now c.shows.new.connection c.shows.new.news in
    let x = visit c.args.machine.now c.texts_down.new.connection c.texts_down.new.news in
    first_made (loadings ∷ advancings ∷ []) (sendings ∷ takings ∷ []) v w x c.in_ok-shown.shown c.in_ok-sent.sent c.if-shown.true c.in_ok-shown.ensures c.in_ok-sent.ensures

pub returns-else-shown : goal.returns-else-shown
returns-else-shown c =
    let v = visit c.args.machine.now c.args.connection.now c.args.news.now in
    let w = visit c.args.machine.now c.shows.new.connection c.shows.new.news in
    let x = visit c.args.machine.now c.texts_down.new.connection c.texts_down.new.news in
    first_idle (loadings ∷ advancings ∷ []) (sendings ∷ takings ∷ []) v w x c.in_ok-shown.shown c.in_ok-sent.sent c.if-shown.false c.in_ok-shown.ensures c.in_ok-sent.ensures
