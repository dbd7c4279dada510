use Rattle.std.proofs.Common.{◌≡◌, None, Some, option_map, ap, sym, ◌∙◌}
use Rattle.std.specs.Prelude.{slice_get}
use Rattle.std.specs.Option.{option_copied}
use Rattle.std.specs.ControlFlow.{continue_value}
use Rattle.session_state.specs.declared.calls.Method.{Method}
use Rattle.session_state.specs.Calls.{as_phase}
use Rattle.session_state.proofs.InPlace.{item_there, phase_there}
use Rattle.session_state.proofs.calls.phase_at.Goals as goal

pub returns-in_err-method : goal.returns-in_err-method
returns-in_err-method c =
    let ms = c.args.methods.now in
    let none : None ≡ slice_get ms c.args.k = sym (ap option_copied (c.branch-method.ensures ∙ ap continue_value c.in_err-method.is)) ∙ item_there ms c.args.k c.get.result c.get.ensures.lookup in
    let gone : c.from_residual.result ≡ None = c.from_residual.ensures in
    ap (option_map as_phase) gone ∙ (ap (option_map (λ (m : Method). as_phase m.phase)) none ∙ phase_there ms c.args.k)

pub returns : goal.returns
returns c =
    let ms = c.args.methods.now in
    let some : Some c.in_ok-method.method.now ≡ slice_get ms c.args.k = sym (ap option_copied (c.branch-method.ensures ∙ ap continue_value c.in_ok-method.is)) ∙ item_there ms c.args.k c.get.result c.get.ensures.lookup in
    ap (option_map (λ (m : Method). as_phase m.phase)) some ∙ phase_there ms c.args.k
