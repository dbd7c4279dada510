use Rattle.std.proofs.Common.{ap, ◌∙◌}
use Rattle.session_core.specs.session_laws.Session.{ASession}
use Rattle.session_core.proofs.session.Session.counts.Goals as goal

pub returns : goal.returns
returns c = c.counts.ensures ∙ ap (λ (s : ASession). s.carried.counts) c.self.view_is
