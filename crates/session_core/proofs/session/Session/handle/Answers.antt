use Rattle.std.specs.Prelude.{Bool, Err, Ok}
use Rattle.std.proofs.Common.{refl, ap, subst, ◌∙◌}
use Rattle.session_core.specs.session_laws.declared.fault.EventFault.{EventFault}
use Rattle.session_core.specs.session_laws.Session.{can_handle, IsCause, HadRoom}
use Rattle.session_core.specs.session_laws.Events.{Handles, Outcome}
use Rattle.session_core.specs.Kept.{seen}
use Rattle.session_core.proofs.Outcomes.{on_error, memory_cause, tested_is, handles, handles_none}
use Rattle.session_core.proofs.session.Session.handle.Goals as goal

pub handle_next-requires-clause-can : goal.handle_next-requires-clause-can
handle_next-requires-clause-can c =
    let s = seen c.self.inside.inner in
    subst (λ (b : Bool). HadRoom b s) c.can_handle.ensures (tested_is c.can_handle.result s (Ok tt) c.in_ok-test.ensures)

pub returns : goal.returns
returns c =
    let s = seen c.self.inside.inner in
    let room = subst (λ (b : Bool). HadRoom b s) c.can_handle.ensures (tested_is c.can_handle.result s (Ok tt) c.in_ok-test.ensures) in
    rw (← c.self.view_is)
    (handles s (seen c.handle_next.new.inner) room c.in_ok-handle_next.ensures.handled)

pub returns-in_err-test : goal.returns-in_err-test
returns-in_err-test c =
    let s = seen c.self.inside.inner in
    rw (← c.self.view_is)
    (on_error (λ (r : Outcome). Handles s s r) c.from_residual.result c.from_residual.ensures.1
    (λ e is. handles_none s s e (subst (λ (b : Bool). IsCause b s e) c.can_handle.ensures (tested_is c.can_handle.result s (Err e) (ap (λ (x : EventFault). Err x) is ∙ c.in_err-test.ensures))) refl))

pub returns-in_err-handle_next : goal.returns-in_err-handle_next
returns-in_err-handle_next c =
    let s = seen c.self.inside.inner in
    let new = seen c.handle_next.new.inner in
    rw (← c.self.view_is)
    (on_error (λ (r : Outcome). Handles s new r) c.from_residual-in_err-handle_next.result c.from_residual-in_err-handle_next.ensures.1
    (λ e is. handles_none s new e (memory_cause (can_handle s) s e is) c.in_err-handle_next.ensures.same))
