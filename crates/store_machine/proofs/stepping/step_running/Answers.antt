use Rattle.std.proofs.Common.{◌+◌, ◌-◌, List, [], Some, refl, ap, sym, subst, ◌∙◌, arith}
use Rattle.collection_store.specs.Limits.{new_bytes}
use Rattle.history_model.specs.declared.entry.Entry.TheVariants.{Step}
use Rattle.history_log.specs.declared.log.Logged.{Logged}
use Rattle.history_log.specs.Log.{settled}
use Rattle.program_steps.specs.declared.outcome.Status.{Status}
use Rattle.store_machine.specs.declared.parts.Parts.{Parts}
use Rattle.store_machine.proofs.Standings.{bounds, steps, step_limits, IsStepped, stand_same, taken_back, seen_same, on_err}
use Rattle.store_machine.proofs.stepping.step_running.Goals as goal

pub overflow_sub-room : goal.overflow_sub-room
overflow_sub-room c = omega (arith, (bounds c.args.app.now c.args.parts.now c.requires.stands).0)

pub overflow_add-place : goal.overflow_add-place
overflow_add-place c = omega (arith, (bounds c.args.app.now c.args.parts.now c.requires.stands).1, c.length-place.ensures)

pub settle-requires-clause-room : goal.settle-requires-clause-room
settle-requires-clause-room c =
    let p = c.args.parts.now in
    let q : Parts = record p { store = c.step_at.new.store; calls = c.step_at.new.calls } in
    let limits = step_limits c.args.app.now p q c.args.session c.args.k c.in-Ok.made _ _ _ c.in-Ok.ensures.made c.requires.stands c.requires.goes c.left_of-had.ensures c.left_of-left.ensures in
    omega (arith, limits.0)

pub settle-requires-clause-among : goal.settle-requires-clause-among
settle-requires-clause-among c =
    let p = c.args.parts.now in
    let q : Parts = record p { store = c.step_at.new.store; calls = c.step_at.new.calls } in
    (step_limits c.args.app.now p q c.args.session c.args.k c.in-Ok.made _ _ _ c.in-Ok.ensures.made c.requires.stands c.requires.goes c.left_of-had.ensures c.left_of-left.ensures).1

pub settle-requires-clause-few : goal.settle-requires-clause-few
settle-requires-clause-few c =
    let p = c.args.parts.now in
    let q : Parts = record p { store = c.step_at.new.store; calls = c.step_at.new.calls } in
    let limits = step_limits c.args.app.now p q c.args.session c.args.k c.in-Ok.made _ _ _ c.in-Ok.ensures.made c.requires.stands c.requires.goes c.left_of-had.ensures c.left_of-left.ensures in
    omega (arith, limits.2, limits.3)

pub returns-in-Ok : goal.returns-in-Ok
returns-in-Ok c =
    let p = c.args.parts.now in
    let made = c.in-Ok.made in
    let q : Parts = record { store = c.step_at.new.store; calls = c.step_at.new.calls; log = settled c.push.new.self made.changes; kept = p.kept + new_bytes made.changes; reserved = p.reserved + c.left_of-left.result - c.left_of-had.result } in
    let all =
    steps c.args.app.now p q c.args.session c.args.k made _ _ _ c.in-Ok.ensures.made c.requires.stands c.requires.goes (omega (arith, c.length-place.ensures)) c.left_of-had.ensures c.left_of-left.ensures
    (ap (λ (ls : List Logged). settled ls made.changes) c.in_ok-push.ensures.ok) refl refl in
    let is = subst (λ (x : Parts). IsStepped c.args.app.now p x c.args.session c.args.k made) (sym c.settle.ensures.parts) all in
    record { stands = is.stands; ok = is.seen_is; status = is.status ∙ ap (λ (s : Status). Some s) (sym c.settle.ensures.status); err = tt }

pub returns-in-Err : goal.returns-in-Err
returns-in-Err c =
    let p = c.args.parts.now in
    let q : Parts = record p { store = c.step_at.new.store; calls = c.step_at.new.calls; log = c.pop.new.self } in
    let back = taken_back p.log c.push.new.self c.pop.new.self (record { entry = Step c.args.session c.args.k; changes = [] }) c.in_ok-push.ensures.ok c.pop.ensures in
    record { stands = stand_same c.args.app.now p q c.requires.stands c.in-Err.ensures.store c.in-Err.ensures.calls back refl refl; ok = tt; status = tt; err = seen_same c.args.app.now p q back }

pub returns-in_err-push-clause-stands : goal.returns-in_err-push-clause-stands
returns-in_err-push-clause-stands c =
    let p = c.args.parts.now in
    stand_same c.args.app.now p (record p { log = c.push.new.self }) c.requires.stands refl (λ q. refl) c.in_err-push.ensures.err refl refl

pub returns-in_err-push-clause-err : goal.returns-in_err-push-clause-err
returns-in_err-push-clause-err c = on_err c.from_residual.result (seen_same c.args.app.now c.args.parts.now (record c.args.parts.now { log = c.push.new.self }) c.in_err-push.ensures.err)
