-- subs
use Rattle.std.proofs.Common.{map, ap, ◌∙◌}
use Rattle.session_core.specs.session_state.declared.subs.Sub.{Sub}
use Rattle.session_core.specs.session_state.Subs.{as_live, observers_of}
use Rattle.std.specs.Prelude.{List}
use Rattle.session_core.specs.session_laws.Session.{ASession}
use Rattle.session_core.proofs.session.Session.subs.Goals as goal

pub returns-clause-live : goal.returns-clause-live
returns-clause-live c = ap (λ (xs : List Sub). map as_live xs) c.as_slice.ensures.value ∙ ap (λ (s : ASession). s.carried.own.subs) c.self.view_is

pub returns-clause-observers : goal.returns-clause-observers
returns-clause-observers c = ap observers_of c.as_slice.ensures.value ∙ ap (λ (s : ASession). s.observers) c.self.view_is
