-- A call is told `updated` with the item after which its fence is open for the first time.
use Rattle.std.specs.Prelude.{◌≡◌, ℕ, List, [], ◌∷◌, ◌++◌, Bool, true, false, Option, Some, None}
use Rattle.session_model.specs.Items.{Item}
use Rattle.session_model.specs.Methods.{Phase, finished, told, phase_at}
use Rattle.session_model.specs.State.{State}
use Rattle.session_model.specs.LooksBack.{finished_at, WasFenceOpen}

-- ---- what a call's phase says

abbrev pub Says : ℕ → List Item → Option Phase → Type 0
Says k items (Some (finished place)) = (finished_at k items ≡ Some place) × (WasFenceOpen k items → ⊥)
Says k items (Some (told place)) = (finished_at k items ≡ Some place) × WasFenceOpen k items
Says k items o = finished_at k items ≡ None

-- the same of the item's own doing, before fences open
abbrev pub SaysOwn : ℕ → List Item → Item → Option Phase → Type 0
SaysOwn k items i (Some (finished place)) = (finished_at k (items ++ i ∷ []) ≡ Some place) × (WasFenceOpen k items → ⊥)
SaysOwn k items i (Some (told place)) = (finished_at k (items ++ i ∷ []) ≡ Some place) × WasFenceOpen k items
SaysOwn k items i o = finished_at k (items ++ i ∷ []) ≡ None

abbrev pub KnowsFences : State → List Item → Type 0
KnowsFences st items = (k : ℕ) → Says k items (phase_at k st.methods)

-- ---- the law

abbrev pub is_told : Option Phase → Bool
is_told (Some (told place)) = true
is_told o = false
