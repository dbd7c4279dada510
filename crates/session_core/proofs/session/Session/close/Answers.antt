use Rattle.std.proofs.Common.{subst}
use Rattle.session_core.specs.session_laws.Session.{ASession, dropped}
use Rattle.session_core.specs.session_laws.Events.{Closes}
use Rattle.session_core.specs.Kept.{seen}
use Rattle.session_core.proofs.Outcomes.{closes}
use Rattle.session_core.proofs.session.Session.close.Goals as goal

pub returns : goal.returns
returns c = subst (λ (s : ASession). Closes s (dropped (seen c.self.inside.inner))) c.self.view_is (closes (seen c.self.inside.inner))
