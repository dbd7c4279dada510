-- A subscription has one `ready` once it is loaded, and after it one `nosub` once it is closed.
use Rattle.std.specs.Prelude.{◌≡◌, ℕ, List, is_some}
use Rattle.session_model.specs.Items.{Item}
use Rattle.session_model.specs.LooksBack.{is_closed, loaded_at, answers_of, answers_by_fate}

abbrev pub KnowsAnswers : List Item → Type 0
KnowsAnswers items = (s : ℕ) → answers_of s items ≡ answers_by_fate (is_some (loaded_at s items)) (is_closed s items)
