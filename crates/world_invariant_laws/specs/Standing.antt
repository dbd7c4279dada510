-- The calls of a journal that were not refused: each is new at its item, and the one that blocks is the last.
use Rattle.std.specs.Prelude.{◌≡◌, ℕ, ◌<◌, ◌≤◌, List, [], ◌∷◌, ◌++◌, length, Bool, true, false, not, Some}
use Rattle.world_model.specs.session_model.Items.{Item}
use Rattle.world_model.specs.session_model.Items as item
use Rattle.world_model.specs.session_model.Methods.{refused, Blocking}
use Rattle.world_model.specs.session_model.State.{State}
use Rattle.world_model.specs.session_model.LooksBack.{is_refused_in}
use Rattle.world_model.specs.Headline.{calls_in}

-- ---- one item at the end

abbrev pub stands_in : List Item → Blocking → Bool
stands_in items b = not (is_refused_in items b.k)

-- ---- numbers

abbrev pub AreBelow : ℕ → List Blocking → Type 0
AreBelow n [] = Unit {0}
AreBelow n (b ∷ bs) = (b.k < n) × AreBelow n bs

-- the call is the last one, it wasn't refused, and those before it have lesser numbers
pub record IsLastCall (items : List Item) (b : Blocking) : Type 0 where
  pub older : List Blocking
  pub is : calls_in items ≡ older ++ b ∷ []
  pub stands : is_refused_in items b.k ≡ false
  pub below : AreBelow b.k older

pub record KnowsCalls (st : State) (items : List Item) : Type 0 where
  pub below : AreBelow (length st.methods) (calls_in items)
  pub fresh : (k : ℕ) → length st.methods ≤ k → is_refused_in items k ≡ false
  pub last : (b : Blocking) → st.blocking ≡ Some b → IsLastCall items b

-- ---- items that are no call and refuse none

abbrev pub is_plain : Item → Bool
is_plain (item.call k message seed) = false
is_plain (item.refused k place) = false
is_plain i = true
