-- Texts by the places of publishes.
use Rattle.std.specs.Prelude.{ℕ, Bool, true, false, List, Option, Some, None, slice_get, slice_set, if◌then◌else◌}
use Rattle.std.specs.Option.{option_flatten}

-- the text of each publish, where it is known
abbrev pub Texts : Type 0
Texts = List (Option (List ℕ))

-- the text at this place, if it is known
abbrev pub text_at : Texts → ℕ → Option (List ℕ)
text_at texts place = option_flatten (slice_get texts place)

-- a place with no text
abbrev pub has_none : Option (Option (List ℕ)) → Bool
has_none None = false
has_none (Some None) = true
has_none (Some (Some text)) = false

-- there is this place, with no text
abbrev pub is_open : Texts → ℕ → Bool
is_open texts place = has_none (slice_get texts place)

-- with the text at this place, where there is it and it has none
abbrev pub put_text : Texts → ℕ → List ℕ → Texts
put_text texts place text = if is_open texts place then slice_set texts place (Some text) else texts
