-- The callers of a store that is tried.
use Rattle.std.specs.Prelude.{ℕ, List, [], ◌∷◌, None}
use Rattle.shared_store.specs.declared.given.Given.{Given}

abbrev pub out : ℕ → Given
out number = record { number = number; made = None }

-- those of the operator and of two sessions, none of which is back
abbrev pub all_out : List Given
all_out = out 0 ∷ out 1 ∷ out 2 ∷ []
