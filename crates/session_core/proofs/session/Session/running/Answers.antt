-- running
use Rattle.std.specs.Prelude.{IfOk}
use Rattle.std.proofs.Common.{◌≡◌, subst}
use Rattle.session_state.specs.Work.{running_from}
use Rattle.session_core.specs.session_laws.Session.{ASession}
use Rattle.session_core.proofs.session.Session.running.Goals as goal

pub returns : goal.returns
returns c = subst (λ (s : ASession). IfOk c.running.result (λ calls. calls.items ≡ running_from 0 s.carried.own.methods)) c.self.view_is c.running.ensures
