-- Calls that are settled run no longer.
use Rattle.std.proofs.Common.{◌≡◌, ℕ, zero, suc, ◌+◌, List, [], ◌∷◌, ◌++◌, map, drop, true, refl, ap, sym, ◌∙◌, arith}
use Rattle.std.proofs.lemmas.Bool.{false≢true}
use Rattle.value_model.specs.TruthLaws.{both_true}
use Rattle.session_model.specs.Methods.{Phase, running, refused, finished, told}
use Rattle.session_state.specs.declared.calls.Method.{Method}
use Rattle.session_state.specs.Calls.{as_method, is_settled, are_settled}
use Rattle.session_state.specs.Work.{running_by, running_from}

none_runs : (k : ℕ) (p : Phase) → is_settled p ≡ true → running_by k p ≡ []
none_runs k running s = absurd (false≢true s)
none_runs k refused s = refl
none_runs k (finished place) s = absurd (false≢true s)
none_runs k (told place) s = refl

pub running_settled : (n k q : ℕ) (ms : List Method) → q ≡ n + k → are_settled k (map as_method ms) ≡ true → running_from q (map as_method (drop k ms)) ≡ running_from n (map as_method ms)
running_settled n zero q ms is s = ap (λ (x : ℕ). running_from x (map as_method ms)) (omega (arith, is))
running_settled n (suc k) q [] is s = absurd (false≢true s)
running_settled n (suc k) q (m ∷ ms) is s =
    let parts = both_true (is_settled (as_method m).phase) (are_settled k (map as_method ms)) s in
    running_settled (suc n) k q ms (omega (arith, is)) parts.1 ∙ sym (ap (λ xs. xs ++ running_from (suc n) (map as_method ms)) (none_runs n (as_method m).phase parts.0))
