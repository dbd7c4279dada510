-- blocking
use Rattle.std.proofs.Common.{option_map, ap, ◌∙◌}
use Rattle.session_core.specs.session_state.Own.{as_blocking}
use Rattle.session_core.specs.session_laws.Session.{ASession}
use Rattle.session_core.proofs.session.Session.blocking.Goals as goal

pub returns : goal.returns
returns c = ap (option_map as_blocking) c.as_ref.ensures.value ∙ ap (λ (s : ASession). s.carried.own.blocking) c.self.view_is
