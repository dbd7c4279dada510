-- The floor that a session keeps of a subscription is the one that its journal says.
use Rattle.std.specs.Prelude.{◌≡◌, ℕ, ◌≤◌, List, [], ◌∷◌, Bool, true, false}
use Rattle.std.specs.List.{list_any}
use Rattle.session_model.specs.Items.{Item}
use Rattle.session_model.specs.Subscriptions.{Live}
use Rattle.session_model.specs.State.{State}
use Rattle.session_model.specs.LooksBack.{reach_from, opens, floor_in}
use Rattle.session_journal_laws.specs.Tracking.{Tracks}

abbrev pub is_opened : ℕ → List Item → Bool
is_opened s items = list_any (opens s) items

-- ---- each live subscription

abbrev pub HasFloor : List Item → Live → Type 0
HasFloor items l = (is_opened l.sub items ≡ true) × (l.floor ≡ floor_in l.sub items)

abbrev pub HaveFloors : List Item → List Live → Type 0
HaveFloors items [] = Unit {0}
HaveFloors items (l ∷ ls) = HasFloor items l × HaveFloors items ls

-- ---- over a journal

pub record KnowsFloors (st : State) (items : List Item) : Type 0 where
  pub tracks : Tracks st items
  pub reach : st.reach ≡ reach_from [] items
  pub floors : HaveFloors items st.subs
  pub fresh : (s : ℕ) → st.opened ≤ s → is_opened s items ≡ false

abbrev pub AreFloors : List Item → List Live → Type 0
AreFloors items [] = Unit {0}
AreFloors items (l ∷ ls) = (l.floor ≡ floor_in l.sub items) × AreFloors items ls
