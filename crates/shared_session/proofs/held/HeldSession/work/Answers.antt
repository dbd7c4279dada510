use Rattle.std.proofs.Common.{sym, subst}
use Rattle.std.specs.Prelude.{length}
use Rattle.shared_session.specs.Held.{AHeld}
use Rattle.shared_session.specs.Reached.{AreReached}
use Rattle.shared_session.proofs.Floors.{reached}
use Rattle.shared_session.proofs.held.HeldSession.work.Goals as goal

pub returns-in_err-work-clause-reached : goal.returns-in_err-work-clause-reached
returns-in_err-work-clause-reached g c =
    subst (λ (h : AHeld). AreReached (length h.list) h.session.carried.own.subs) c.self.view_is
    (reached (record { session = c.self.inside.session; list = c.self.inside.pass }) c.self.invariant.stands.taken c.self.invariant.stands.sent c.self.invariant.stands.for)

pub returns-clause-reached : goal.returns-clause-reached
returns-clause-reached g c =
    subst (λ (h : AHeld). AreReached (length h.list) h.session.carried.own.subs) c.self.view_is
    (reached (record { session = c.self.inside.session; list = c.self.inside.pass }) c.self.invariant.stands.taken c.self.invariant.stands.sent c.self.invariant.stands.for)
