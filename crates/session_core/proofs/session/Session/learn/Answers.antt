use Rattle.std.specs.Prelude.{Bool, Err, Ok}
use Rattle.std.proofs.Common.{refl, ap, subst, ◌∙◌}
use Rattle.session_core.specs.session_laws.declared.fault.EventFault.{EventFault}
use Rattle.session_core.specs.session_laws.Session.{can_learn, IsCause, HadRoom}
use Rattle.session_core.specs.session_laws.Events.{Learns, Outcome}
use Rattle.session_core.specs.Kept.{seen}
use Rattle.session_core.proofs.Outcomes.{on_error, memory_cause, tested_is, learns, learns_none}
use Rattle.session_core.proofs.session.Session.learn.Goals as goal

pub told_of-requires-clause-can : goal.told_of-requires-clause-can
told_of-requires-clause-can c =
    let s = seen c.self.inside.inner in
    subst (λ (b : Bool). HadRoom b s) c.can_learn.ensures (tested_is c.can_learn.result s (Ok tt) c.in_ok-test.ensures)

pub returns : goal.returns
returns c =
    let s = seen c.self.inside.inner in
    let room = subst (λ (b : Bool). HadRoom b s) c.can_learn.ensures (tested_is c.can_learn.result s (Ok tt) c.in_ok-test.ensures) in
    rw (← c.self.view_is)
    (learns c.args.k c.args.status.now s (seen c.told_of.new.inner) room c.in_ok-told_of.ensures.learnt)

pub returns-in_err-test : goal.returns-in_err-test
returns-in_err-test c =
    let s = seen c.self.inside.inner in
    rw (← c.self.view_is)
    (on_error (λ (r : Outcome). Learns c.args.k c.args.status.now s s r) c.from_residual.result c.from_residual.ensures.1
    (λ e is. learns_none c.args.k c.args.status.now s s e (subst (λ (b : Bool). IsCause b s e) c.can_learn.ensures (tested_is c.can_learn.result s (Err e) (ap (λ (x : EventFault). Err x) is ∙ c.in_err-test.ensures))) refl))

pub returns-in_err-told_of : goal.returns-in_err-told_of
returns-in_err-told_of c =
    let s = seen c.self.inside.inner in
    let new = seen c.told_of.new.inner in
    rw (← c.self.view_is)
    (on_error (λ (r : Outcome). Learns c.args.k c.args.status.now s new r) c.from_residual-in_err-told_of.result c.from_residual-in_err-told_of.ensures.1
    (λ e is. learns_none c.args.k c.args.status.now s new e (memory_cause (can_learn c.args.k c.args.status.now s) s e is) c.in_err-told_of.ensures.same))
