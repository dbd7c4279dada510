-- What is shown, as it is written.
use Rattle.std.specs.Prelude.{◌≡◌, ◌++◌, ◌∷◌, [], ℕ, List, Result, Ok, Err, OnOk, refl}
use Rattle.std.proofs.Common.{ap, ◌∙◌}
use Rattle.value_model.specs.Val.{Val}
use Rattle.checking.specs.Output.{bytes_of, value_bytes}
use Rattle.client_model.specs.Lines.{line_texts}
use Rattle.reviving.specs.Run.{line_bytes}

shown_lines : (vs : List Val) → line_bytes (line_texts vs) ≡ bytes_of vs
shown_lines [] = refl
shown_lines (v ∷ vs) = ap (λ bs. value_bytes v ++ bs) (shown_lines vs)

pub shown_written : {X F : Type 0} (r : Result X F) (before now : List ℕ) (shown : List (List ℕ)) (vs : List Val) → shown ≡ line_texts vs →
    OnOk r (now ≡ before ++ line_bytes shown) → OnOk r (now ≡ before ++ bytes_of vs)
shown_written (Ok x) before now shown vs is w = w ∙ ap (λ bs. before ++ bs) (ap line_bytes is ∙ shown_lines vs)
shown_written (Err e) before now shown vs is w = w
