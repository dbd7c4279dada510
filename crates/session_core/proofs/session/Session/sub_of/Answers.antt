use Rattle.std.proofs.Common.{List, map, ap, ◌∙◌}
use Rattle.session_core.specs.session_model.Subscriptions.{sub_named}
use Rattle.session_core.specs.session_state.declared.subs.Sub.{Sub}
use Rattle.session_core.specs.session_state.Subs.{as_live}
use Rattle.session_core.specs.session_laws.Session.{ASession}
use Rattle.session_core.proofs.session.Session.sub_of.Goals as goal

pub returns : goal.returns
returns c =
    c.sub_named.ensures
    ∙ (ap (λ (xs : List Sub). sub_named c.args.id.now (map as_live xs)) c.as_slice.ensures.value ∙ ap (λ (s : ASession). sub_named c.args.id.now s.carried.own.subs) c.self.view_is)
