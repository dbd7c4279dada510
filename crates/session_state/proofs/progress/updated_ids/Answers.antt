use Rattle.std.proofs.Common.{ℕ, List, ◌++◌, map, drop, ap, ◌∙◌, arith}
use Rattle.session_state.specs.Calls.{as_method, told_from}
use Rattle.session_state.proofs.Settled.{told_settled}
use Rattle.session_state.proofs.progress.updated_ids.Goals as goal

pub loop-place-init : goal.loop-place-init
loop-place-init c =
    let n = c.args.passed in
    let ms = c.args.methods.now in
    ap (λ (ids : List (List ℕ)). ids ++ told_from c.args.progress.now c.args.ended n (map as_method (drop n ms))) c.new-ids.ensures
    ∙ told_settled c.args.progress.now c.args.ended 0 n n ms (omega arith) c.requires.settled c.requires.before
