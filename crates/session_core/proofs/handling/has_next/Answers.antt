use Rattle.std.specs.Prelude.{is_some}
use Rattle.std.proofs.Common.{ap, ◌∙◌}
use Rattle.ddp_messages.specs.ClientMessage.{client_view}
use Rattle.session_core.proofs.Nexts.{some_mapped, peeks}
use Rattle.session_core.proofs.handling.has_next.Goals as goal

pub returns : goal.returns
returns c = c.is_some.ensures ∙ (some_mapped (λ m. client_view m.now) c.peek.result ∙ (ap is_some c.peek.ensures.message ∙ peeks c.args.inner.now c.requires))
