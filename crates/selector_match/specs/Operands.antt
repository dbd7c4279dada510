-- Operands in their order, each once, and as they were written.
use Rattle.std.specs.Prelude.{◌≡◌, ℕ, ◌<◌, Bool, Option, List, length, map, slice_index_or, ◌||◌, false}
use Rattle.std.specs.List.{list_any}
use Rattle.std.specs.declared.cmp.Ordering.TheVariants.{Less}
use Rattle.value_model.specs.Val.{Val, null}
use Rattle.value_model.specs.Order.{compare}
use Rattle.value_model.specs.Branches.{Branch}
use Rattle.selector_match.specs.Holds.{branch_candidates, equals}

-- the values at these places
abbrev pub picked : List Val → List ℕ → List Val
picked vs places = map (λ k. slice_index_or vs k null) places

-- each value is less than those behind it
abbrev pub IsRising : List Val → Type 0
IsRising vs = (i j : ℕ) → i < j → j < length vs → compare (slice_index_or vs i null) (slice_index_or vs j null) ≡ Less

-- a test holds of some value of the one list exactly where it does of some value of the other
abbrev pub PassAlike : List Val → List Val → Type 0
PassAlike vs ws = (test : Val → Bool) → list_any test vs ≡ list_any test ws

-- the marks after a test that holds of some of the operands: one is marked where it was or the test holds of it
abbrev pub Marked : List Val → (Val → Bool) → List Bool → List Bool → Type 0
Marked vs test old new = (k : ℕ) → k < length vs → slice_index_or new k false ≡ (slice_index_or old k false || test (slice_index_or vs k null))

-- the value equals a candidate of a branch, and of some of the branches
abbrev pub met_at : Val → Option Val → Bool → Bool
met_at v reached whole = list_any (λ c. equals v c) (branch_candidates (reached, whole))

abbrev pub met : Val → List Branch → Bool
met v bs = list_any (λ b. met_at v b.0 b.1) bs
