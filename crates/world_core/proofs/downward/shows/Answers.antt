use Rattle.std.proofs.Common.{[], ◌∷◌}
use Rattle.std.proofs.lemmas.Result.{err_from_is_err_and}
use Rattle.connection.specs.world_model.Settle.{loadings, advancings}
use Rattle.world_core.specs.Visit.{visit}
use Rattle.world_core.proofs.PhaseVisits.{led_on}
use Rattle.world_core.proofs.Passing.{first_made, first_idle}
use Rattle.world_core.proofs.downward.shows.Goals as goal

pub returns-in_err-advanced : goal.returns-in_err-advanced
returns-in_err-advanced c =
    let v = visit c.args.machine.now c.args.connection.now c.args.news.now in
    let w = visit c.args.machine.now c.loadings.new.connection c.loadings.new.news in
    let x = visit c.args.machine.now c.advancings.new.connection c.advancings.new.news in
    let p = err_from_is_err_and c.from_residual-in_err-advanced.result c.from_residual-in_err-advanced.ensures.1 in
    rw p.1 (led_on v w x c.in_ok-loaded.ensures.led c.in_err-advanced.ensures)

pub returns-then-loaded : goal.returns-then-loaded
returns-then-loaded c =
    let v = visit c.args.machine.now c.args.connection.now c.args.news.now in
    let w = visit c.args.machine.now c.loadings.new.connection c.loadings.new.news in
    let x = visit c.args.machine.now c.advancings.new.connection c.advancings.new.news in
    first_made (loadings ∷ []) (advancings ∷ []) v w x c.in_ok-loaded.loaded c.in_ok-advanced.advanced c.if-loaded.true c.in_ok-loaded.ensures c.in_ok-advanced.ensures

pub returns-else-loaded : goal.returns-else-loaded
returns-else-loaded c =
    let v = visit c.args.machine.now c.args.connection.now c.args.news.now in
    let w = visit c.args.machine.now c.loadings.new.connection c.loadings.new.news in
    let x = visit c.args.machine.now c.advancings.new.connection c.advancings.new.news in
    first_idle (loadings ∷ []) (advancings ∷ []) v w x c.in_ok-loaded.loaded c.in_ok-advanced.advanced c.if-loaded.false c.in_ok-loaded.ensures c.in_ok-advanced.ensures
