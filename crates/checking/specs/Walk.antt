-- Lines that are read one by one, up to the first one that isn't of the grammar. Blank lines are passed over.
use Rattle.std.specs.Prelude.{ℕ, suc, List, [], ◌∷◌, Option, Some, None, if◌then◌else◌}
use Rattle.checking.specs.Input.{is_blank}

abbrev pub before_bad : {X : Type 0} → Option X → List X → List X
before_bad None later = []
before_bad (Some x) later = x ∷ later

-- what these lines are by this reading of one, up to the first that is none
abbrev pub read_to_bad : {X : Type 0} → (List ℕ → Option X) → List (List ℕ) → List X
read_to_bad reading [] = []
read_to_bad reading (l ∷ ls) = if is_blank l then read_to_bad reading ls else before_bad (reading l) (read_to_bad reading ls)

abbrev pub bad_unless : {X : Type 0} → Option X → ℕ → Option ℕ → Option ℕ
bad_unless None n later = Some n
bad_unless (Some x) n later = later

-- the number of the first line that is none by this reading, counted from n
abbrev pub bad_from : {X : Type 0} → (List ℕ → Option X) → ℕ → List (List ℕ) → Option ℕ
bad_from reading n [] = None
bad_from reading n (l ∷ ls) = if is_blank l then bad_from reading (suc n) ls else bad_unless (reading l) n (bad_from reading (suc n) ls)
