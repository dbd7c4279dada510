use Rattle.std.proofs.Common.{ℕ, List, ◌++◌, map, drop, ap, ◌∙◌, arith}
use Rattle.session_state.specs.Calls.{as_method}
use Rattle.session_state.specs.Work.{running_from}
use Rattle.session_state.proofs.SettledWork.{running_settled}
use Rattle.session_state.proofs.tasks.running_behind.Goals as goal

pub loop-place-init : goal.loop-place-init
loop-place-init c =
    let n = c.args.settled in
    let ms = c.args.methods.now in
    ap (λ (made : List ℕ). made ++ running_from n (map as_method (drop n ms))) c.new-running.ensures.items ∙ running_settled 0 n n ms (omega arith) c.requires
