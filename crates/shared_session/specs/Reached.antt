-- No place that a subscription may not show less than is behind the moments that the journal was made over.
use Rattle.std.specs.Prelude.{ℕ, ◌≤◌, List, [], ◌∷◌, not}
use Rattle.session_model.specs.Subscriptions.{Live}
use Rattle.session_model.specs.State.{State}

-- no subscription has a place that it may not show less than behind so many entries
abbrev pub AreReached : ℕ → List Live → Type 0
AreReached n [] = Unit {0}
AreReached n (l ∷ ls) = (l.floor ≤ n) × AreReached n ls

-- ---- items

-- what was noted is not behind so many entries
abbrev pub HaveReached : ℕ → State → Type 0
HaveReached n st = (st.reach ≤ n) × AreReached n st.subs
