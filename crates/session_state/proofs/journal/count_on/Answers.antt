use Rattle.std.proofs.Common.{◌-◌, ◌<◌, ◌≤◌, length, vec_len, ap, ◌∙◌, add-one, arith}
use Rattle.std.specs.Prelude.{slice_set}
use Rattle.session_state.specs.Kept.{expanded}
use Rattle.session_state.proofs.RunningLemmas.{last_counted, none_counted, count_within}
use Rattle.session_state.proofs.journal.count_on.Goals as goal

pub overflow_add-last : goal.overflow_add-last
overflow_add-last c =
    let old = c.args.records.now in
    let last = c.in-Some.last.now in
    let some : 0 < length old.items = c.in-Some.ensures.item.3.0 in
    let within : last.count ≤ length (expanded old.items) = count_within old.items (vec_len old - 1) last (omega (arith, old.ok.0, some)) c.in-Some.ensures.value in
    omega (arith, within, c.requires)

pub returns-in-Some : goal.returns-in-Some
returns-in-Some c =
    let old = c.args.records.now in
    let last = c.in-Some.last.now in
    let some : 0 < length old.items = c.in-Some.ensures.item.3.0 in
    ap (λ n. slice_set old.items (vec_len old - 1) (record last { count = n })) (add-one last.count)
    ∙ last_counted old.items (vec_len old - 1) last (omega (arith, old.ok.0, some)) c.in-Some.ensures.value

pub returns-in_default : goal.returns-in_default
returns-in_default c = let old = c.args.records.now in none_counted old.items (omega (arith, old.ok.0, c.in_default.ensures.item.3))
