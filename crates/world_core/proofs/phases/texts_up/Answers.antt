use Rattle.std.proofs.Common.{[], ◌∷◌}
use Rattle.std.proofs.lemmas.Result.{err_from_is_err_and}
use Rattle.connection.specs.world_model.Settle.{ups, recvs}
use Rattle.world_core.specs.Visit.{visit}
use Rattle.world_core.proofs.PhaseVisits.{led_on}
use Rattle.world_core.proofs.Passing.{first_made, first_idle, repeated}
use Rattle.world_core.proofs.phases.texts_up.Goals as goal

pub returns-in_err-taken : goal.returns-in_err-taken
returns-in_err-taken c =
    let v = visit c.args.machine.now c.args.connection.now c.args.news.now in
    let w = visit c.repeat.new.machine c.repeat.new.connection c.repeat.new.news in
    let x = visit c.repeat-2.new.machine c.repeat-2.new.connection c.repeat-2.new.news in
    let p = err_from_is_err_and c.from_residual-in_err-taken.result c.from_residual-in_err-taken.ensures.1 in
    rw p.1 (led_on v w x c.in_ok-up.ensures.led c.in_err-taken.ensures)

pub returns-then-up : goal.returns-then-up
returns-then-up c =
    let v = visit c.args.machine.now c.args.connection.now c.args.news.now in
    let w = visit c.repeat.new.machine c.repeat.new.connection c.repeat.new.news in
    let x = visit c.repeat-2.new.machine c.repeat-2.new.connection c.repeat-2.new.news in
    first_made (ups ∷ []) (recvs ∷ []) v w x c.in_ok-up.up c.in_ok-taken.taken c.if-up.true (repeated ups v w c.in_ok-up.up c.in_ok-up.ensures) (repeated recvs w x c.in_ok-taken.taken c.in_ok-taken.ensures)

pub returns-else-up : goal.returns-else-up
returns-else-up c =
    let v = visit c.args.machine.now c.args.connection.now c.args.news.now in
    let w = visit c.repeat.new.machine c.repeat.new.connection c.repeat.new.news in
    let x = visit c.repeat-2.new.machine c.repeat-2.new.connection c.repeat-2.new.news in
    first_idle (ups ∷ []) (recvs ∷ []) v w x c.in_ok-up.up c.in_ok-taken.taken c.if-up.false (repeated ups v w c.in_ok-up.up c.in_ok-up.ensures) (repeated recvs w x c.in_ok-taken.taken c.in_ok-taken.ensures)
