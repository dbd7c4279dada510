use Rattle.std.proofs.Common.{◌≡◌, ◌++◌, ◌∷◌, [], suc}
use Rattle.generated_work.specs.Generated.{call_line, drawn, lines_below}
use Rattle.generated_work.proofs.generating.put_calls.Given as goal

abbrev pub invariant-loop-i : goal.invariant-loop-i
invariant-loop-i l = record {
  lines : l.lines ≡ l.initial.lines ++ lines_below (λ i. call_line i (drawn l.n (suc i)) ∷ []) l.i;
  drawn : l.x ≡ drawn l.n l.i;
}
