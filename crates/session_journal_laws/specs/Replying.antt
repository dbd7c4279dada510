-- The `ready`s and `nosub`s of an id are those that the requests with this id have, in their order.
use Rattle.std.specs.Prelude.{◌≡◌, ℕ, List, [], ◌∷◌, Bool, ◌&&◌, Option, Some, None, is_none, is_some, if◌then◌else◌}
use Rattle.session_model.specs.Items.{Item}
use Rattle.session_model.specs.Subscriptions.{Live, cursor_of, sub_named}
use Rattle.session_model.specs.LooksBack.{SubAnswer, ready, ended, loaded_at}

-- ---- no two live subscriptions have one id

abbrev pub AreNamed : List Live → Type 0
AreNamed [] = Unit {0}
AreNamed (l ∷ ls) = (sub_named l.id ls ≡ None) × AreNamed ls

-- ---- the `ready` that a live subscription will have

abbrev pub pending_of : Option ℕ → List Live → List Item → List SubAnswer
pending_of None ls items = []
pending_of (Some s) ls items = if is_some (loaded_at s items) && is_none (cursor_of s ls) then ready ∷ [] else []

abbrev pub pending : List ℕ → List Live → List Item → List SubAnswer
pending id ls items = pending_of (sub_named id ls) ls items

-- a reply to a request, or none
abbrev pub if_of : Bool → List SubAnswer
if_of b = if b then ended ∷ [] else []
