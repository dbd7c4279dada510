-- What a journal says of subscriptions and fences, by looking back over its items. What the items leave of a session agrees with it.
use Rattle.std.specs.Prelude.{◌≡◌, ℕ, ◌+◌, ◌<◌, ◌≤◌, ◌==◌, List, [], ◌∷◌, ◌++◌, length, max, take, Bool, true, false, Option, Some, None, option_map}
use Rattle.std.specs.Prelude.{if◌then◌else◌}
use Rattle.std.specs.List.{list_any}
use Rattle.std.specs.Option.{option_or}
use Rattle.session_model.specs.Items.{Item}
use Rattle.session_model.specs.Items as item
use Rattle.session_model.specs.Subscriptions.{past}
use Rattle.session_model.specs.State.{or_zero}

-- ---- subscriptions

abbrev pub one_opened : Item → ℕ
one_opened (item.subscribe s message cursors) = 1
one_opened i = 0

-- how many subscriptions were opened
abbrev pub opened_in : List Item → ℕ
opened_in [] = 0
opened_in (i ∷ items) = one_opened i + opened_in items

abbrev pub closes : ℕ → Item → Bool
closes s (item.close r message) = s == r
closes s i = false

abbrev pub is_closed : ℕ → List Item → Bool
is_closed s items = list_any (closes s) items

abbrev pub load_by : ℕ → Item → Option ℕ
load_by s (item.load r place) = if s == r then Some place else None
load_by s i = None

-- where the subscription was loaded, if it was
abbrev pub loaded_at : ℕ → List Item → Option ℕ
loaded_at s [] = None
loaded_at s (i ∷ items) = option_or (load_by s i) (loaded_at s items)

abbrev pub advance_by : ℕ → Item → ℕ
advance_by s (item.advance r count) = if s == r then count else 0
advance_by s i = 0

-- how many entries it went on
abbrev pub advances : ℕ → List Item → ℕ
advances s [] = 0
advances s (i ∷ items) = advance_by s i + advances s items

-- its place: where it was loaded, and as many entries on as it went. It has none before, and none once it is closed
abbrev pub cursor_in : ℕ → List Item → Option ℕ
cursor_in s items = if is_closed s items then None else option_map (λ place. place + advances s items) (loaded_at s items)

-- ---- floors

-- the place at which a method finished, or to which the item brought a subscription, after these items
abbrev pub place_by : List Item → Item → ℕ
place_by before (item.finished k place) = place
place_by before (item.load s place) = place
place_by before (item.advance s count) = or_zero (cursor_in s before) + count
place_by before i = 0

-- the greatest of them
abbrev pub reach_from : List Item → List Item → ℕ
reach_from before [] = 0
reach_from before (i ∷ items) = max (place_by before i) (reach_from (before ++ i ∷ []) items)

abbrev pub opens : ℕ → Item → Bool
opens s (item.subscribe r message cursors) = s == r
opens s i = false

-- the items before the subscription was opened
abbrev pub before_open : ℕ → List Item → List Item
before_open s [] = []
before_open s (i ∷ items) = if opens s i then [] else i ∷ before_open s items

-- a place that the subscription may not show less than: the greatest one that was reached before it was opened
abbrev pub floor_in : ℕ → List Item → ℕ
floor_in s items = reach_from [] (before_open s items)

-- ---- calls that were refused

abbrev pub refuses : ℕ → Item → Bool
refuses k (item.refused j place) = k == j
refuses k i = false

abbrev pub is_refused_in : List Item → ℕ → Bool
is_refused_in items k = list_any (refuses k) items

-- ---- fences

abbrev pub finish_by : ℕ → Item → Option ℕ
finish_by k (item.finished j place) = if k == j then Some place else None
finish_by k i = None

-- where the call had ended, if it has finished
abbrev pub finished_at : ℕ → List Item → Option ℕ
finished_at k [] = None
finished_at k (i ∷ items) = option_or (finish_by k i) (finished_at k items)

-- The fence of a call is open: it has finished, no subscription is opened and neither loaded nor closed, and each live one is at least at the place
-- where the call had ended.
pub record IsFenceOpen (k : ℕ) (items : List Item) : Type 0 where
  pub place : ℕ
  pub finished : finished_at k items ≡ Some place
  pub shown : (s : ℕ) → s < opened_in items → is_closed s items ≡ false → past place (cursor_in s items) ≡ true

-- it was open at some time
pub record WasFenceOpen (k : ℕ) (items : List Item) : Type 0 where
  pub time : ℕ
  pub within : time ≤ length items
  pub there : IsFenceOpen k (take time items)

-- ---- answers to a `sub`

-- what a subscription's client is told: that its documents are there, or that it has ended
pub data SubAnswer : Type 0 where
  ready : SubAnswer
  ended : SubAnswer

abbrev pub answer_by : ℕ → Item → List SubAnswer
answer_by s (item.load r place) = if s == r then ready ∷ [] else []
answer_by s (item.close r message) = if s == r then ended ∷ [] else []
answer_by s i = []

abbrev pub answers_of : ℕ → List Item → List SubAnswer
answers_of s [] = []
answers_of s (i ∷ items) = answer_by s i ++ answers_of s items

-- one `ready` where it was loaded, and then one `nosub` where it was closed (DDP.md, "Managing data")
abbrev pub answers_by_fate : Bool → Bool → List SubAnswer
answers_by_fate is_loaded is_ended = (if is_loaded then ready ∷ [] else []) ++ (if is_ended then ended ∷ [] else [])
