use Rattle.std.proofs.Common.{◌≡◌, suc, ◌+◌, ◌-◌, List, [], ◌∷◌, ◌++◌, length, take, drop, refl, ap, sym, ◌∙◌, arith}
use Rattle.std.proofs.lemmas.Slice.{between_to_end}
use Rattle.ejson_value.specs.declared.row.Member.{Member}
use Rattle.ejson_value.specs.View.{view, pairs, entries}
use Rattle.ejson_value.proofs.row.copies_beside.Goals as goal

both : (ms ns : List Member) → entries (pairs (ms ++ ns)) ≡ entries (pairs ms) ++ entries (pairs ns)
both [] ns = refl
both (m ∷ ms) ns = ap (λ rest. (m.name, view m.value) ∷ rest) (both ms ns)

pub returns : goal.returns
returns c =
    let ms = c.args.members.now in
    let i = c.args.place in
    let next : i + 1 ≡ suc i = omega arith in
    c.in_ok-put_copies-2.ensures
    ∙ (ap (λ es. es ++ entries (pairs (take (length ms - (i + 1)) (drop (i + 1) ms))))
    (c.in_ok-put_copies.ensures ∙ ap (λ (xs : List Member). entries (pairs xs) ++ entries (pairs (take i ms))) c.in_ok-copies.ensures.items)
    ∙ (ap (λ (xs : List Member). entries (pairs (take i ms)) ++ entries (pairs xs)) (between_to_end ms (i + 1) (length ms) (omega arith) ∙ ap (λ k. drop k ms) next)
    ∙ sym (both (take i ms) (drop (suc i) ms))))
