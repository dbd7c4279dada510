use Rattle.std.proofs.Common.{◌≤◌, ℕ, map, ap, sym, subst, ◌∙◌}
use Rattle.std.proofs.Math.Nat.{min-le_left, min-le_right}
use Rattle.session_state.specs.Calls.{as_phase, as_method, are_settled}
use Rattle.session_state.proofs.Settled.{fewer, turned_settled}
use Rattle.session_state.proofs.kept.Own.end.Goals as goal

pub invariant_of-self : goal.invariant_of-self
invariant_of-self c =
    let own = c.args.self.now in
    let n = c.min-self.result in
    let ms = map as_method own.methods.items in
    let before : n ≤ c.args.k = subst (λ (x : ℕ). x ≤ c.args.k) (sym c.min-self.ensures) (min-le_right own.settled c.args.k) in
    let less : n ≤ own.settled = subst (λ (x : ℕ). x ≤ own.settled) (sym c.min-self.ensures) (min-le_left own.settled c.args.k) in
    record { known = ap (are_settled n) c.turn.ensures ∙ turned_settled n c.args.k (as_phase c.args.phase) ms before (fewer own.settled n ms less own.known) }
