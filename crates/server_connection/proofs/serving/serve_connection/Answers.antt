use Rattle.std.specs.Prelude.{◌≡◌, ℕ, [], false, is_err}
use Rattle.std.proofs.Common.{sym, subst, ◌∙◌}
use mathlib.Core.List.{IsPrefix}
use Rattle.session_state.specs.Work.{running_from}
use Rattle.shared_session.specs.Held.{AHeld, StandsFor}
use Rattle.server_connection.specs.Ends.{AreOver, IsNew}
use Rattle.server_connection.proofs.Rounds.{new_stands, new_served, no_calls, cause_longer, runs_over, not_err}
use Rattle.server_connection.proofs.serving.serve_connection.Goals as goal

pub returns-then-is_err-clause-serves : goal.returns-then-is_err-clause-serves
returns-then-is_err-clause-serves g c =
    no_calls g.L.Link.steps g.L.Link.faults c.args.link.now c.meet.new.session (subst (λ (h : AHeld). StandsFor [] [] h) (sym c.meet.ensures.same) (new_stands g.N.StoreName.app c.args.caller.now c.args.session.now c.requires))

pub serve-end-requires-clause-served : goal.serve-end-requires-clause-served
serve-end-requires-clause-served g c κs within =
    let value = c.is_err.ensures.value in
    let test = c.if-is_err.false in
    let fine : is_err c.meet.result ≡ false = cc in
    let prefix = not_err _ c.meet.result fine c.meet.ensures.within in
    new_served g.N.StoreName.app c.args.caller.now c.meet.new.pass c.meet.new.session (subst (λ (h : AHeld). IsNew g.N.StoreName.app c.args.caller.now h) (sym c.meet.ensures.same) c.requires)
    (subst (λ (h : AHeld). IsPrefix h.list c.meet.new.pass) (sym c.meet.ensures.same) prefix)

pub serve-end-requires-clause-fresh : goal.serve-end-requires-clause-fresh
serve-end-requires-clause-fresh g c κs within = subst (λ (h : AHeld). StandsFor [] [] h) (sym c.meet.ensures.same) (new_stands g.N.StoreName.app c.args.caller.now c.args.session.now c.requires)

pub returns-in-Ok-clause-cause : goal.returns-in-Ok-clause-cause
returns-in-Ok-clause-cause g c = cause_longer c.serve-end.new.caller c.serve-end.new.pass c.end_runs.new.pass c.serve-end.new.session c.serve-end.result c.end_runs.ensures.grows c.serve-end.ensures.cause

pub returns-in-Ok-clause-runs : goal.returns-in-Ok-clause-runs
returns-in-Ok-clause-runs g c =
    let h = c.serve-end.new.session in
    runs_over g.N.StoreName.app c.end_runs.new.pass h c.serve-end.result
    (subst (λ (n : ℕ). AreOver g.N.StoreName.app c.end_runs.new.pass n (running_from 0 h.session.carried.own.methods)) (c.number.ensures ∙ sym c.serve-end.ensures.number) c.in-Ok.ensures.over)
