-- Lines that are generated one after another.
use Rattle.std.specs.Prelude.{◌≡◌, ℕ, suc, ◌+◌, List, ◌++◌}
use Rattle.std.proofs.Common.{ap, sym, ◌∙◌, add-one}
use Rattle.std.proofs.lemmas.List.{append_assoc}
use Rattle.value_model.specs.Val.{Val}
use Rattle.generated_work.specs.Generated.{next, drawn, lines_below}

-- the lines of one number more
pub one_more : (f : ℕ → List Val) (i : ℕ) (before now after : List Val) → now ≡ before ++ lines_below f i → after ≡ now ++ f i → after ≡ before ++ lines_below f (i + 1)
one_more f i before now after is more = more ∙ ap (λ vs. vs ++ f i) is ∙ append_assoc before (lines_below f i) (f i) ∙ ap (λ n. before ++ lines_below f n) (sym (add-one i))

-- the next number that is drawn
pub drawn_next : (n i x y : ℕ) → x ≡ drawn n i → y ≡ next x → y ≡ drawn n (i + 1)
drawn_next n i x y is more = more ∙ ap next is ∙ ap (drawn n) (sym (add-one i))
