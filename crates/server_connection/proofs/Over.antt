-- Runs that are over stay so, or the history has not gone on.
use Rattle.std.specs.Prelude.{◌≡◌, ◌⊎◌, ℕ, ◌+◌, ◌<◌, ◌≤◌, List, [], ◌++◌, length, slice_index, Bool, true, Some}
use Rattle.std.proofs.Common.{ap, sym, subst, ◌∙◌, arith, inl, inr, length-append}
use Rattle.std.proofs.lemmas.Bool.{cases_order}
use Rattle.std.proofs.lemmas.List.{nil_from_length, append-nil}
use mathlib.Core.List.{IsPrefix}
use Rattle.app_model.specs.App.{App}
use Rattle.history_model.specs.declared.entry.Entry.{Entry}
use Rattle.history_model.specs.History.{held, status_in}
use Rattle.history_model.specs.StatusLaws.{ended_stays}
use Rattle.world_model.specs.Store.{programs}
use Rattle.server_connection.specs.Ends.{HasEnded, IsOver}

pub ended_longer : (app : App) (n k : ℕ) (xs ys : List Entry) → IsPrefix xs ys → HasEnded app xs n k → HasEnded app ys n k
ended_longer app n k xs ys p e = record {
  status = e.status;
  there = subst (λ (es : List Entry). status_in (held (programs app) es) n k ≡ Some e.status) p.1 (ended_stays (programs app) xs p.0 n k e.status e.there e.ended);
  ended = e.ended;
}

prefix_equal : (xs ys : List Entry) → IsPrefix xs ys → length ys ≤ length xs → ys ≡ xs
prefix_equal xs ys p le =
    let split : length ys ≡ length xs + length p.0 = ap length (sym p.1) ∙ length-append xs p.0 in
    let none : p.0 ≡ [] = nil_from_length p.0 (omega (arith, split, le)) in
    sym p.1 ∙ (ap (λ es. xs ++ es) none ∙ append-nil xs)

module _ (app : App) (n : ℕ) (calls : List ℕ) (xs ys : List Entry) (p : IsPrefix xs ys) (i : ℕ) where
  abbrev AreOverTo : List Entry → ℕ → Type 0
  AreOverTo list m = (place : ℕ) → place < m → IsOver app list n (slice_index calls place)

  abbrev HaveEndedTo : List Entry → ℕ → Type 0
  HaveEndedTo list m = (place : ℕ) → place < m → HasEnded app list n (slice_index calls place)

  earlier : (begun : Bool) → AreOverTo xs i → (begun ≡ true → HaveEndedTo xs i) → (begun ≡ true) ⊎ (length ys ≤ length xs) → AreOverTo ys i
  earlier begun over ended (inl all) place less = inr (ended_longer app n (slice_index calls place) xs ys p (ended all place less))
  earlier begun over ended (inr le) place less = subst (λ (es : List Entry). IsOver app es n (slice_index calls place)) (sym (prefix_equal xs ys p le)) (over place less)

  at_last : (place : ℕ) → place < i + 1 → (place ≡ i) ⊎ ((place < i) ⊎ (i < place)) → (place ≡ i) ⊎ (place < i)
  at_last place less (inl same) = inl same
  at_last place less (inr (inl before)) = inr before
  at_last place less (inr (inr behind)) = absurd (omega (arith, less, behind))

  pub over_more : (begun : Bool) → AreOverTo xs i → (begun ≡ true → HaveEndedTo xs i) → (begun ≡ true) ⊎ (length ys ≤ length xs) → IsOver app ys n (slice_index calls i) → AreOverTo ys (i + 1)
  over_more begun over ended how now place less = by (at_last place less (cases_order place i))
    where
      by : (place ≡ i) ⊎ (place < i) → IsOver app ys n (slice_index calls place)
      by (inl same) = subst (λ j. IsOver app ys n (slice_index calls j)) (sym same) now
      by (inr before) = earlier begun over ended how place before

  pub ended_more : HaveEndedTo xs i → HasEnded app ys n (slice_index calls i) → HaveEndedTo ys (i + 1)
  ended_more ended now place less = by (at_last place less (cases_order place i))
    where
      by : (place ≡ i) ⊎ (place < i) → HasEnded app ys n (slice_index calls place)
      by (inl same) = subst (λ j. HasEnded app ys n (slice_index calls j)) (sym same) now
      by (inr before) = ended_longer app n (slice_index calls place) xs ys p (ended place before)
