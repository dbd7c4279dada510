-- The call that blocks is the last one, and it runs.
use Rattle.std.specs.Prelude.{◌≡◌, ℕ, suc, List, length, true, Some}
use Rattle.session_model.specs.Methods.{running, Method, is_blocked_by, phase_at}
use Rattle.session_model.specs.State.{State}

-- ---- what blocks

-- the call that blocks runs, and is the last one
pub record IsLast (k : ℕ) (methods : List Method) : Type 0 where
  pub runs : phase_at k methods ≡ Some running
  pub last : suc k ≡ length methods

abbrev pub BlocksLast : State → Type 0
BlocksLast st = (k : ℕ) → is_blocked_by k st.blocking ≡ true → IsLast k st.methods
