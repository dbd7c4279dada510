use Rattle.std.specs.Prelude.{IfOk}
use Rattle.std.proofs.Common.{◌≡◌, subst}
use Rattle.session_state.specs.Work.{as_work, work_of}
use Rattle.session_core.specs.session_laws.Session.{ASession}
use Rattle.session_core.proofs.session.Session.work.Goals as goal

pub returns : goal.returns
returns c = subst (λ (s : ASession). IfOk c.tasks_of.result (λ work. as_work work ≡ work_of s.carried.own)) c.self.view_is c.tasks_of.ensures
