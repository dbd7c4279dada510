use Rattle.std.specs.Prelude.{Bool, Err, Ok}
use Rattle.std.proofs.Common.{ap, subst, ◌∙◌}
use Rattle.session_core.specs.session_laws.declared.fault.EventFault.{EventFault}
use Rattle.session_core.specs.session_laws.Session.{IsCause, HadRoom}
use Rattle.session_core.specs.session_laws.Events.{Takes, Outcome}
use Rattle.session_core.specs.Kept.{seen}
use Rattle.session_core.proofs.Outcomes.{on_error, tested_is, takes_refused, takes_so}
use Rattle.session_core.proofs.session.Session.take.Goals as goal

pub taken-requires-clause-room : goal.taken-requires-clause-room
taken-requires-clause-room c =
    let s = seen c.self.inside.inner in
    subst (λ (b : Bool). HadRoom b s) c.is_at_work.ensures (tested_is c.is_at_work.result s (Ok tt) c.in_ok-test.ensures)

pub returns : goal.returns
returns c =
    let s = seen c.self.inside.inner in
    let room = subst (λ (b : Bool). HadRoom b s) c.is_at_work.ensures (tested_is c.is_at_work.result s (Ok tt) c.in_ok-test.ensures) in
    rw (← c.self.view_is)
    (takes_so c.args.text.now s (seen c.taken.new.inner) c.taken.result room c.taken.ensures.taken c.taken.ensures.cause c.taken.ensures.same)

pub returns-in_err-test : goal.returns-in_err-test
returns-in_err-test c =
    let s = seen c.self.inside.inner in
    rw (← c.self.view_is)
    (on_error (λ (r : Outcome). Takes c.args.text.now s s r) c.from_residual.result c.from_residual.ensures.1
    (λ e is. takes_refused c.args.text.now s e (subst (λ (b : Bool). IsCause b s e) c.is_at_work.ensures (tested_is c.is_at_work.result s (Err e) (ap (λ (x : EventFault). Err x) is ∙ c.in_err-test.ensures)))))
