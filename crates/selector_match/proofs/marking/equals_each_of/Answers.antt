use Rattle.std.proofs.Common.{◌≡◌, ℕ, ◌<◌, ◌≤◌, false, length, take, get_or, replicate, ap, ◌∙◌, arith}
use Rattle.std.proofs.lemmas.List.{take-replicate, length-replicate, get_or-replicate}
use Rattle.selector_match.proofs.marking.equals_each_of.Goals as goal

none_in_front : (n m k : ℕ) → n ≤ m → k < length (take n (replicate m false)) → get_or (take n (replicate m false)) k false ≡ false
none_in_front n m k le h =
    ap (λ bs. get_or bs k false) (take-replicate n m false le)
    ∙ get_or-replicate n k false false (omega (arith, h, ap length (take-replicate n m false le), length-replicate n false))

pub are_all_marked-requires-clause-unmarked : goal.are_all_marked-requires-clause-unmarked
are_all_marked-requires-clause-unmarked c k h = none_in_front (length c.args.rising.now) 1024 k c.requires.few h
