-- Which armed fences fire, by the least cursor of the loaded subscriptions (Meteor's DDP.md, "Remote procedure calls").
use Rattle.std.specs.Prelude.{ℕ, nat_le, List, [], ◌∷◌, Bool, true, false, not, ◌&&◌, ◌||◌, Option, Some, None, is_none, filter, if◌then◌else◌}
use Rattle.std.specs.Ordering.{nat_cmp}
use Rattle.map_model.specs.Maps.{set}
use Rattle.session_model.specs.Items.{Item}
use Rattle.session_model.specs.Items as item
use Rattle.session_model.specs.Subscriptions.{Live}

-- the map from the number of each armed call to the place at which it had ended
abbrev pub Armed : Type 0
Armed = List (ℕ × ℕ)

abbrev pub is_reached : Option ℕ → ℕ → Bool
is_reached None place = true
is_reached (Some least) place = nat_le place least

-- the fences that stay armed
abbrev pub unfired : Bool → Option ℕ → Armed → Armed
unfired opening least armed = filter (λ e. not (not opening && is_reached least e.1)) armed

-- the lesser of two cursors
abbrev pub lesser : Option ℕ → Option ℕ → Option ℕ
lesser None o = o
lesser (Some c) None = Some c
lesser (Some c) (Some d) = if nat_le c d then Some c else Some d

-- the least cursor, and this one
abbrev pub least_with : Option ℕ → List Live → Option ℕ
least_with o [] = o
least_with o (l ∷ ls) = least_with (lesser o l.cursor) ls

-- some subscription isn't loaded yet
abbrev pub is_opening : List Live → Bool
is_opening [] = false
is_opening (l ∷ ls) = is_none l.cursor || is_opening ls

-- the item of a call that has finished arms its fence
abbrev pub armed_with : Item → Armed → Armed
armed_with (item.finished k place) armed = set nat_cmp armed k (Some place)
armed_with i armed = armed
