use Rattle.std.proofs.Common.{ap}
use Rattle.session_core.specs.session_laws.Session.{ASession}
use Rattle.session_core.proofs.session.Session.failed.Goals as goal

pub returns : goal.returns
returns c = ap (λ (s : ASession). s.carried.own.failed) c.self.view_is
