-- How many items a journal has: at most three for each text that was taken, and as many as the history is long for each subscription that was opened.
use Rattle.std.specs.Prelude.{ℕ, suc, ◌+◌, ◌-◌, List, [], ◌∷◌, length, filter, Option, Some, None}
use Rattle.session_model.specs.Items.{Item, handled_by, handled}
use Rattle.session_model.specs.Items as item
use Rattle.session_model.specs.Subscriptions.{Live, loaded}
use Rattle.session_model.specs.Methods.{Phase, running, Method, Blocking}
use Rattle.session_model.specs.State.{State}
use Rattle.session_model.specs.Answering.{is_at_once}

-- ---- how many items may still come of what there is

abbrev pub call_left : Phase → ℕ
call_left running = 1
call_left p = 0

abbrev pub calls_left : List Method → ℕ
calls_left [] = 0
calls_left (m ∷ ms) = call_left m.phase + calls_left ms

-- the call that blocks may let the next message be handled
abbrev pub block_left : Option Blocking → ℕ
block_left None = 0
block_left (Some b) = 1

-- a subscription is loaded, and then goes on to the end of a history of this length
abbrev pub sub_left : ℕ → Option ℕ → ℕ
sub_left entries None = suc entries
sub_left entries (Some cursor) = entries - cursor

abbrev pub subs_left : ℕ → List Live → ℕ
subs_left entries [] = 0
subs_left entries (l ∷ ls) = sub_left entries l.cursor + subs_left entries ls

abbrev pub left : ℕ → State → ℕ
left entries st = calls_left st.methods + (block_left st.blocking + subs_left entries st.subs)

-- ---- items

-- how many texts an item answers
abbrev pub texts_by : Item → ℕ
texts_by i = length (handled_by i) + length (filter is_at_once (i ∷ []))

abbrev pub texts_in : List Item → ℕ
texts_in [] = 0
texts_in (i ∷ items) = texts_by i + texts_in items

-- as many as a subscription may need for the places of the history, where the item opens one
abbrev pub places_by : ℕ → Item → ℕ
places_by n (item.subscribe s message cursors) = n
places_by n i = 0

abbrev pub places_in : ℕ → List Item → ℕ
places_in n [] = 0
places_in n (i ∷ items) = places_by n i + places_in n items
