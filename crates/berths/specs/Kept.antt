-- What is so of berths at each time, and what a step does.
use Rattle.std.specs.Prelude.{◌≡◌, ◌≢◌, ℕ, List, [], ◌∷◌, Option, Some, slice_get, slice_index}
use mathlib.Core.Option.{some}
use lib.ListN.{get_elem?}
use Rattle.atomic_table.specs.Table.{State, Me, rest}

module _ {T V : Type 0} where
  -- the value of each berth whose word is 1 is there and fits
  pub record Kept (fits : ℕ → T → Type 0) (s : State (Option T) V) : Type 0 where
    pub there : (i : ℕ) → slice_index s.words i ≡ 1 → (x : T) × (get_elem? s.homes i ≡ some (some (Some x))) × fits i x

  -- one who finds 1 has the berth's value, which fits it; another one has what he had
  abbrev pub Locks : (ℕ → T → Type 0) → ℕ → Me (Option T) V → ℕ → Me (Option T) V → Type 0
  Locks fits i seat found after = (found ≡ 1 → (x : T) × fits i x × (after ≡ (seat.0, (i, Some x) ∷ seat.1))) × (found ≢ 1 → after ≡ seat)

  -- he has it no more
  abbrev pub Unlocks : Me (Option T) V → Me (Option T) V → Type 0
  Unlocks seat after = after ≡ (seat.0, rest seat.1)

module _ {T : Type 0} where
  -- the berth's value is out with this seat
  abbrev pub Holds : (ℕ → T → Type 0) → ℕ → List (ℕ × Option T) → Type 0
  Holds fits i carried = (x : T) × fits i x × (carried ≡ (i, Some x) ∷ [])

  -- each value fits its place
  abbrev pub AllFit : (ℕ → T → Type 0) → List T → Type 0
  AllFit fits xs = (i : ℕ) (x : T) → slice_get xs i ≡ Some x → fits i x
