use Rattle.std.proofs.Common.{List, map, ap, ◌∙◌}
use Rattle.session_state.specs.declared.calls.Method.{Method}
use Rattle.session_state.specs.Calls.{as_method, are_settled}
use Rattle.session_state.proofs.tasks.running.Goals as goal

pub running_behind-requires : goal.running_behind-requires
running_behind-requires c =
    let own = c.args.own.now in
    ap (λ (ms : List Method). are_settled own.settled (map as_method ms)) c.as_slice.ensures.value ∙ own.known
