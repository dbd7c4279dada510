use Rattle.std.proofs.Common.{rules, map, ap, ◌∙◌}
use Rattle.std.proofs.lemmas.Fn.{filter_same}
use Rattle.session_state.specs.Subs.{as_live, observers_of}
use Rattle.session_state.proofs.Places.{closed_is, without_is}
use Rattle.session_state.proofs.subs.close.Goals as goal

pub returns-clause-closed : goal.returns-clause-closed
returns-clause-closed c = ap (map as_live) (filter_same _ _ _ (λ x b f' k. search rules) _ _ c.retain.ensures.filtered) ∙ closed_is c.args.number c.args.subs.now.items

pub returns-clause-observers : goal.returns-clause-observers
returns-clause-observers c = ap observers_of (filter_same _ _ _ (λ x b f' k. search rules) _ _ c.retain.ensures.filtered) ∙ without_is c.args.number c.args.subs.now.items
