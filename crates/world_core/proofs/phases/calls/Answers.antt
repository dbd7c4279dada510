use Rattle.std.proofs.Common.{[], ◌∷◌}
use Rattle.std.proofs.lemmas.Result.{err_from_is_err_and}
use Rattle.connection.specs.world_model.Settle.{steps, learns}
use Rattle.world_core.specs.Visit.{visit}
use Rattle.world_core.proofs.PhaseVisits.{led_on}
use Rattle.world_core.proofs.Passing.{first_made, first_idle}
use Rattle.world_core.proofs.phases.calls.Goals as goal

pub returns-in_err-learnt : goal.returns-in_err-learnt
returns-in_err-learnt c =
    let v = visit c.args.machine.now c.args.connection.now c.args.news.now in
    let w = visit c.runs.new.machine c.runs.new.connection c.runs.new.news in
    let x = visit c.learnings.new.machine c.learnings.new.connection c.learnings.new.news in
    let p = err_from_is_err_and c.from_residual-in_err-learnt.result c.from_residual-in_err-learnt.ensures.1 in
    rw p.1 (led_on v w x c.in_ok-stepped.ensures.led c.in_err-learnt.ensures)

pub returns-then-stepped : goal.returns-then-stepped
returns-then-stepped c =
    let v = visit c.args.machine.now c.args.connection.now c.args.news.now in
    let w = visit c.runs.new.machine c.runs.new.connection c.runs.new.news in
    let x = visit c.learnings.new.machine c.learnings.new.connection c.learnings.new.news in
    first_made (steps ∷ []) (learns ∷ []) v w x c.in_ok-stepped.stepped c.in_ok-learnt.learnt c.if-stepped.true c.in_ok-stepped.ensures c.in_ok-learnt.ensures

pub returns-else-stepped : goal.returns-else-stepped
returns-else-stepped c =
    let v = visit c.args.machine.now c.args.connection.now c.args.news.now in
    let w = visit c.runs.new.machine c.runs.new.connection c.runs.new.news in
    let x = visit c.learnings.new.machine c.learnings.new.connection c.learnings.new.news in
    first_idle (steps ∷ []) (learns ∷ []) v w x c.in_ok-stepped.stepped c.in_ok-learnt.learnt c.if-stepped.false c.in_ok-stepped.ensures c.in_ok-learnt.ensures
