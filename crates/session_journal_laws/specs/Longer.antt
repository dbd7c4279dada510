-- A journal that fits a store's moments fits those with later ones, and its messages stay.
use Rattle.std.specs.Prelude.{ℕ, ◌<◌, List, [], ◌∷◌, ◌++◌, map, Option, Some, None}
use Rattle.merge_model.specs.Publishing.{Call}
use Rattle.value_model.specs.Val.{Entries}
use Rattle.ejson_value.specs.declared.key.Key.{Key}
use Rattle.ddp_messages.specs.ServerMessage.{ServerMessage}
use Rattle.session_model.specs.Items.{Item}
use Rattle.session_model.specs.Subscriptions.{Live}
use Rattle.session_model.specs.State.{State}
use Rattle.session_model.specs.Moments.{Moment}
use Rattle.session_model.specs.Shown.{Calls, merge_of, difference}
use Rattle.session_model.specs.Out.{about, updated, told_after}

-- ---- subscriptions at moments that are there

abbrev pub IsPlace : ℕ → Option ℕ → Type 0
IsPlace n None = Unit {0}
IsPlace n (Some place) = place < n

abbrev pub AreWithin : ℕ → List Live → Type 0
AreWithin n [] = Unit {0}
AreWithin n (l ∷ ls) = IsPlace n l.cursor × AreWithin n ls

-- ---- the messages stay

abbrev pub with_call : List Moment → ℕ → Calls → State → Item → Call Key Entries → List ServerMessage → List ServerMessage
with_call C number past st i call own = map about (difference (merge_of past) (merge_of (call ∷ past))) ++ (own ++ map updated (told_after st i))
