use Rattle.std.proofs.Common.{List, ap, ◌∙◌}
use Rattle.session_model.specs.Methods.{Method, fire}
use Rattle.session_model.specs.State.{State}
use Rattle.session_state.specs.declared.progress.Progress.{Progress}
use Rattle.session_state.specs.Calls.{fire_by}
use Rattle.session_state.specs.Own.{as_state, stepped}
use Rattle.session_state.proofs.Telling.{fire_is}
use Rattle.session_state.proofs.kept.Own.take.Goals as goal

pub returns-clause-fired : goal.returns-clause-fired
returns-clause-fired c =
    let carried = as_state c.carry.new.self in
    let next = stepped c.args.step (as_state c.args.self.now) in
    ap (λ (ms : List Method). record carried { methods = ms }) (c.fire.ensures.fired ∙ (ap (λ (p : Progress). fire_by p carried.methods) c.requires.progress ∙ fire_is next.subs carried.methods))
    ∙ ap (λ (st : State). record st { methods = fire next.subs st.methods }) c.carry.ensures.stepped
