use Rattle.std.specs.Prelude.{Bool, Err, Ok}
use Rattle.std.proofs.Common.{refl, ap, subst, ◌∙◌}
use Rattle.session_core.specs.session_laws.declared.fault.EventFault.{EventFault}
use Rattle.session_core.specs.session_laws.Session.{can_refuse, IsCause, HadRoom}
use Rattle.session_core.specs.session_laws.Events.{Refuses, Outcome}
use Rattle.session_core.specs.Kept.{seen}
use Rattle.session_core.proofs.Outcomes.{on_error, memory_cause, tested_is, refuses, refuses_none}
use Rattle.session_core.proofs.session.Session.refuse.Goals as goal

pub turn_down-requires-clause-can : goal.turn_down-requires-clause-can
turn_down-requires-clause-can c =
    let s = seen c.self.inside.inner in
    subst (λ (b : Bool). HadRoom b s) c.can_refuse.ensures (tested_is c.can_refuse.result s (Ok tt) c.in_ok-test.ensures)

pub returns : goal.returns
returns c =
    let s = seen c.self.inside.inner in
    let room = subst (λ (b : Bool). HadRoom b s) c.can_refuse.ensures (tested_is c.can_refuse.result s (Ok tt) c.in_ok-test.ensures) in
    rw (← c.self.view_is)
    (refuses c.args.k c.args.at s (seen c.turn_down.new.inner) room c.in_ok-turn_down.ensures.refused)

pub returns-in_err-test : goal.returns-in_err-test
returns-in_err-test c =
    let s = seen c.self.inside.inner in
    rw (← c.self.view_is)
    (on_error (λ (r : Outcome). Refuses c.args.k c.args.at s s r) c.from_residual.result c.from_residual.ensures.1
    (λ e is. refuses_none c.args.k c.args.at s s e (subst (λ (b : Bool). IsCause b s e) c.can_refuse.ensures (tested_is c.can_refuse.result s (Err e) (ap (λ (x : EventFault). Err x) is ∙ c.in_err-test.ensures))) refl))

pub returns-in_err-turn_down : goal.returns-in_err-turn_down
returns-in_err-turn_down c =
    let s = seen c.self.inside.inner in
    let new = seen c.turn_down.new.inner in
    rw (← c.self.view_is)
    (on_error (λ (r : Outcome). Refuses c.args.k c.args.at s new r) c.from_residual-in_err-turn_down.result c.from_residual-in_err-turn_down.ensures.1
    (λ e is. refuses_none c.args.k c.args.at s new e (memory_cause (can_refuse c.args.k s) s e is) c.in_err-turn_down.ensures.same))
