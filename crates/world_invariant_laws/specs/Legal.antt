-- The history of a world is legal: each entry that an act or an operation adds can be made there.
use Rattle.std.specs.Prelude.{◌≡◌, ℕ, ◌==◌, nat_lt, List, [], ◌∷◌, Bool, true, not, ◌||◌, is_some}
use Rattle.app_model.specs.App.{App, method}
use Rattle.world_model.specs.history_model.History.{RunKey}
use Rattle.world_model.specs.session_model.Methods.{Blocking}

-- ---- calls are of methods that the application has

abbrev pub AreOf : App → List Blocking → Type 0
AreOf app [] = Unit {0}
AreOf app (b ∷ bs) = (is_some (method app b.method) ≡ true) × AreOf app bs

-- ---- the next number

abbrev pub is_before : ℕ → ℕ → RunKey → Bool
is_before n k q = not (q.0 == n) || nat_lt q.1 k
