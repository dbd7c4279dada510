use Rattle.std.proofs.Common.{◌≡◌, ◌≤◌, ℕ, length, map, true, ap, sym, subst, ◌∙◌, add-one, arith}
use Rattle.std.proofs.lemmas.List.{length-map}
use Rattle.session_state.specs.declared.calls.Method.{Method}
use Rattle.session_state.specs.Calls.{as_method, is_settled, are_settled}
use Rattle.session_state.proofs.Settled.{one_more, no_more}
use Rattle.session_state.proofs.calls.more_settled.Goals as goal

pub loop-place-preserved : goal.loop-place-preserved
loop-place-preserved c =
    let ms = c.args.methods.now in
    let n = c.loop-place.place in
    let settled : is_settled (as_method c.index-methods-place.result).phase ≡ true = ap (λ (m : Method). is_settled (as_method m).phase) c.index-methods-place.is ∙ (sym c.is_settled.ensures ∙ c.if-not-is_settled.false) in
    subst (λ (k : ℕ). are_settled k (map as_method ms) ≡ true) (sym (add-one n)) (one_more n ms c.index-methods-place.result (omega arith) c.index-methods-place.is settled c.loop-place.invariant)

pub returns : goal.returns
returns c =
    let ms = c.args.methods.now in
    let few : c.args.settled ≤ length (map as_method ms) = no_more c.args.settled (map as_method ms) c.requires in
    let least : c.args.settled ≤ length ms = omega (arith, few, length-map ms as_method) in
    let end : c.loop-place.place ≤ length ms = c.loop-place.auto.place-end least in
    let all : c.loop-place.place ≡ length ms = omega (arith, end) in
    subst (λ (k : ℕ). are_settled k (map as_method ms) ≡ true) all c.loop-place.invariant
