use Rattle.std.proofs.Common.{None, ap, sym, ◌∙◌, cond}
use Rattle.history_model.specs.History.{status_in}
use Rattle.store_machine.specs.State.{held_by}
use Rattle.store_machine.specs.Standing.{seen}
use Rattle.store_machine.proofs.Standings.{running_seen, stays}
use Rattle.store_machine.proofs.stepping.step.Goals as goal

pub step_running-requires-clause-goes : goal.step_running-requires-clause-goes
step_running-requires-clause-goes c = sym c.is_running-running.ensures ∙ c.if-not-running.false

pub returns-then-not-running : goal.returns-then-not-running
returns-then-not-running c =
    let app = c.args.app.now in
    let p = c.args.parts.now in
    let over = sym c.is_running-running.ensures ∙ c.if-not-running.true in
    let is = running_seen app p c.args.session c.args.k c.requires ∙ over in
    record { stands = c.requires; ok = stays app p c.args.session c.args.k c.requires over; status = sym (ap (λ b. cond b (status_in (held_by (seen app p)) c.args.session c.args.k) None) is); err = tt }

pub returns-clause-status : goal.returns-clause-status
returns-clause-status c =
    let app = c.args.app.now in
    let is = running_seen app c.args.parts.now c.args.session c.args.k c.requires ∙ (sym c.is_running-running.ensures ∙ c.if-not-running.false) in
    sym (ap (λ b. cond b (status_in (held_by (seen app c.step_running.new.parts)) c.args.session c.args.k) None) is ∙ c.in_ok-step_running.ensures.status)
