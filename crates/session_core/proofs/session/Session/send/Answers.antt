use Rattle.std.proofs.Common.{subst}
use Rattle.session_core.specs.session_laws.Session.{ASession}
use Rattle.session_core.specs.session_laws.Events.{Sends}
use Rattle.session_core.specs.Kept.{seen}
use Rattle.session_core.proofs.session.Session.send.Goals as goal

pub returns : goal.returns
returns c = subst (λ (s : ASession). Sends s (seen c.send.new.inner) c.send.result) c.self.view_is c.send.ensures.sends
