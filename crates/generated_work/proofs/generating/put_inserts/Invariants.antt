use Rattle.std.proofs.Common.{◌≡◌, ◌++◌, ◌∷◌, []}
use Rattle.generated_work.specs.Generated.{insert_line, lines_below}
use Rattle.generated_work.proofs.generating.put_inserts.Given as goal

abbrev pub invariant-loop-i : goal.invariant-loop-i
invariant-loop-i l = l.lines ≡ l.initial.lines ++ lines_below (λ i. insert_line i ∷ []) l.i
