use Rattle.std.specs.Prelude.{Bool, Err, Ok}
use Rattle.std.proofs.Common.{refl, ap, subst, ◌∙◌}
use Rattle.session_core.specs.session_laws.declared.fault.EventFault.{EventFault}
use Rattle.session_core.specs.session_laws.Session.{can_load, IsCause, HadRoom}
use Rattle.session_core.specs.session_laws.Events.{Loads, Outcome}
use Rattle.session_core.specs.Kept.{seen}
use Rattle.session_core.proofs.Outcomes.{on_error, memory_cause, tested_is, loads, loads_none}
use Rattle.session_core.proofs.session.Session.load.Goals as goal

pub load_at-requires-clause-can : goal.load_at-requires-clause-can
load_at-requires-clause-can c =
    let s = seen c.self.inside.inner in
    subst (λ (b : Bool). HadRoom b s) c.can_load.ensures (tested_is c.can_load.result s (Ok tt) c.in_ok-test.ensures)

pub returns : goal.returns
returns c =
    let s = seen c.self.inside.inner in
    let room = subst (λ (b : Bool). HadRoom b s) c.can_load.ensures (tested_is c.can_load.result s (Ok tt) c.in_ok-test.ensures) in
    rw (← c.self.view_is)
    (loads c.args.sub c.args.at c.args.contents.now s (seen c.load_at.new.inner) room c.in_ok-load_at.ensures.loaded)

pub returns-in_err-test : goal.returns-in_err-test
returns-in_err-test c =
    let s = seen c.self.inside.inner in
    rw (← c.self.view_is)
    (on_error (λ (r : Outcome). Loads c.args.sub c.args.at c.args.contents.now s s r) c.from_residual.result c.from_residual.ensures.1
    (λ e is. loads_none c.args.sub c.args.at c.args.contents.now s s e (subst (λ (b : Bool). IsCause b s e) c.can_load.ensures (tested_is c.can_load.result s (Err e) (ap (λ (x : EventFault). Err x) is ∙ c.in_err-test.ensures))) refl))

pub returns-in_err-load_at : goal.returns-in_err-load_at
returns-in_err-load_at c =
    let s = seen c.self.inside.inner in
    let new = seen c.load_at.new.inner in
    rw (← c.self.view_is)
    (on_error (λ (r : Outcome). Loads c.args.sub c.args.at c.args.contents.now s new r) c.from_residual-in_err-load_at.result c.from_residual-in_err-load_at.ensures.1
    (λ e is. loads_none c.args.sub c.args.at c.args.contents.now s new e (memory_cause (can_load c.args.sub c.args.at s) s e is) c.in_err-load_at.ensures.same))
