-- What a clock tells after one more question.
use Rattle.std.proofs.Common.{◌≡◌, ℕ, suc, ◌+◌, ◌<◌, ◌++◌, min, Bool, true, false, cond, List, [], ◌∷◌, Option, Some, None, refl, ap, sym, ◌∙◌, arith}
use Rattle.std.specs.Prelude.{nat_lt}
use Rattle.std.proofs.lemmas.Bool.Decides.{nat_tests}
use borrow.Author.Tests.{ltb-true}
use Rattle.heartbeat.specs.Clocks.{step_answer, step_answers}

told_before : (last step asked next : ℕ) (now : List ℕ) → next ≡ min (asked + 1) last → nat_lt next last ≡ true → Some (step_answers step next) ≡ Some now →
    (old : List ℕ) × (cond (nat_lt asked last) (Some (step_answers step asked)) None ≡ Some old) × (old ++ step_answer step asked ∷ [] ≡ now)
told_before last step asked next now is below told =
    let less : next < last = ltb-true next last below in
    let one_more : suc asked ≡ next = omega arith in
    let before : asked < last = omega arith in
    let counted : nat_lt asked last ≡ true = grind (arith, nat_tests) in
    let more : step_answers step (suc asked) ≡ step_answers step next = ap (step_answers step) one_more in
    (step_answers step asked, ap (λ b. cond b (Some (step_answers step asked)) None) counted, more ∙ cc told)

pub told_again : (last step asked next : ℕ) (now : List ℕ) → next ≡ min (asked + 1) last → cond (nat_lt next last) (Some (step_answers step next)) None ≡ Some now →
    (old : List ℕ) × (cond (nat_lt asked last) (Some (step_answers step asked)) None ≡ Some old) × (old ++ step_answer step asked ∷ [] ≡ now)
told_again last step asked next now is told =
    elim (nat_lt next last) as (λ b. nat_lt next last ≡ b → cond b (Some (step_answers step next)) None ≡ Some now →
    (old : List ℕ) × (cond (nat_lt asked last) (Some (step_answers step asked)) None ≡ Some old) × (old ++ step_answer step asked ∷ [] ≡ now)) [
      | true ↦ λ below h. told_before last step asked next now is below h
      | false ↦ λ above h. cc h
    ] refl told
