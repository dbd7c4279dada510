-- No `updated` of an id comes before its `result`.
use Rattle.std.specs.Prelude.{ℕ, ◌+◌, ◌-◌, ◌≤◌, List, [], ◌∷◌}
use Rattle.ddp_messages.specs.ServerMessage.{ServerMessage}
use Rattle.session_model.specs.Out.{updated}
use Rattle.session_model.specs.Counting.{result_in, updated_in, results}

-- with so many results that wait for their `updated`, none of the messages is an `updated` too many
abbrev pub AreAhead : List ℕ → ℕ → List ServerMessage → Type 0
AreAhead id n [] = Unit {0}
AreAhead id n (m ∷ ms) = (updated_in id m ≤ n + result_in id m) × AreAhead id (n + result_in id m - updated_in id m) ms
