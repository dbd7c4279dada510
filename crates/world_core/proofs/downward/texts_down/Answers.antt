use Rattle.std.proofs.Common.{[], ◌∷◌}
use Rattle.std.proofs.lemmas.Result.{err_from_is_err_and}
use Rattle.connection.specs.world_model.Settle.{sendings, takings}
use Rattle.world_core.specs.Visit.{visit}
use Rattle.world_core.proofs.PhaseVisits.{led_on}
use Rattle.world_core.proofs.Passing.{first_made, first_idle, repeated}
use Rattle.world_core.proofs.downward.texts_down.Goals as goal

pub returns-in_err-taken : goal.returns-in_err-taken
returns-in_err-taken c =
    let v = visit c.args.machine.now c.args.connection.now c.args.news.now in
    let w = visit c.args.machine.now c.repeat_over.new.connection c.repeat_over.new.news in
    let x = visit c.args.machine.now c.repeat_over-2.new.connection c.repeat_over-2.new.news in
    let p = err_from_is_err_and c.from_residual-in_err-taken.result c.from_residual-in_err-taken.ensures.1 in
    rw p.1 (led_on v w x c.in_ok-sent.ensures.led c.in_err-taken.ensures)

pub returns-then-sent : goal.returns-then-sent
returns-then-sent c =
    let v = visit c.args.machine.now c.args.connection.now c.args.news.now in
    let w = visit c.args.machine.now c.repeat_over.new.connection c.repeat_over.new.news in
    let x = visit c.args.machine.now c.repeat_over-2.new.connection c.repeat_over-2.new.news in
    first_made (sendings ∷ []) (takings ∷ []) v w x c.in_ok-sent.sent c.in_ok-taken.taken c.if-sent.true (repeated sendings v w c.in_ok-sent.sent c.in_ok-sent.ensures) (repeated takings w x c.in_ok-taken.taken c.in_ok-taken.ensures)

pub returns-else-sent : goal.returns-else-sent
returns-else-sent c =
    let v = visit c.args.machine.now c.args.connection.now c.args.news.now in
    let w = visit c.args.machine.now c.repeat_over.new.connection c.repeat_over.new.news in
    let x = visit c.args.machine.now c.repeat_over-2.new.connection c.repeat_over-2.new.news in
    first_idle (sendings ∷ []) (takings ∷ []) v w x c.in_ok-sent.sent c.in_ok-taken.taken c.if-sent.false (repeated sendings v w c.in_ok-sent.sent c.in_ok-sent.ensures) (repeated takings w x c.in_ok-taken.taken c.in_ok-taken.ensures)
