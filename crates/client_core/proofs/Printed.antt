-- One line more.
use Rattle.std.specs.Prelude.{map, drop}
use Rattle.std.proofs.Common.{◌≡◌, ℕ, suc, ◌<◌, length, get_or, List, [], ◌∷◌, ◌++◌, sym, ap, ap₂, ◌∙◌, append_assoc}
use Rattle.std.proofs.Math.Seq.{drop-cons}
use Rattle.value_model.specs.Val.{Val}
use Rattle.client_model.specs.Client.{Call}
use Rattle.ejson_codec.specs.Lines.{line_text}
use Rattle.client_model.specs.Lines.{line_texts, method_line, method_lines}

pub next_line : {A : Type 0} (f : A → Val) (lines after all : List (List ℕ)) (before rest : List A) (x : A) → lines ++ line_texts (map f before) ≡ all → before ≡ x ∷ rest → after ≡ lines ++ line_text (f x) ∷ []
    → after ++ line_texts (map f rest) ≡ all
next_line f lines after all before rest x so_far steps pushed =
    ap (λ ls. ls ++ line_texts (map f rest)) pushed ∙ append_assoc lines (line_text (f x) ∷ []) (line_texts (map f rest)) ∙ ap (λ xs. lines ++ line_texts (map f xs)) (sym steps) ∙ so_far

pub next_call : (lines after all : List (List ℕ)) (calls : List Call) (i j n m : ℕ) (call : Call) → i < length calls → j ≡ suc i → m ≡ suc n → call ≡ get_or calls i call
    → lines ++ line_texts (method_lines (suc n) (drop i calls)) ≡ all → after ≡ lines ++ line_text (method_line m call) ∷ [] → after ++ line_texts (method_lines (suc m) (drop j calls)) ≡ all
next_call lines after all calls i j n m call within further up is so_far pushed =
    ap (λ ls. ls ++ line_texts (method_lines (suc m) (drop j calls))) pushed ∙ append_assoc lines (line_text (method_line m call) ∷ []) (line_texts (method_lines (suc m) (drop j calls)))
    ∙ ap (λ vs. lines ++ line_texts vs) step ∙ so_far
  where
    step : method_line m call ∷ method_lines (suc m) (drop j calls) ≡ method_lines (suc n) (drop i calls)
    step =
        ap₂ (λ k d. method_line k call ∷ method_lines (suc k) (drop d calls)) up further
        ∙ ap (λ (x : Call). method_line (suc n) x ∷ method_lines (suc (suc n)) (drop (suc i) calls)) is
        ∙ sym (ap (method_lines (suc n)) (drop-cons calls i call within))
