-- The difference of what a client was given and what a session sent, put together in two walks.
use Rattle.std.specs.Prelude.{ℕ, List, [], ◌∷◌, Option, Some, None, is_some, option_map, if◌then◌else◌}
use Rattle.std.specs.declared.cmp.Ordering.{Ordering}
use Rattle.map_model.specs.Maps.{at}
use Rattle.map_model.specs.Differences.{between}
use Rattle.value_model.specs.Val.{Entries}
use Rattle.value_model.specs.Order.{text_cmp}
use Rattle.ejson_value.specs.declared.key.Key.{Key}
use Rattle.ejson_value.specs.Key.{key_cmp}
use Rattle.ejson_value.specs.Rows.{Rows}
use Rattle.kept_document.specs.Held.{put_some}
use Rattle.reconnect_model.specs.Giving.{same_value, step_text}

-- the text that leads from the one document to the other, if they differ
abbrev pub text_between : Key → Option Entries → Option Entries → Option (List ℕ)
text_between key before after = option_map (λ step. step_text (key, step)) (between text_cmp same_value before after)

-- what is said of a document that was given
abbrev pub change_at : Rows → Key → Entries → Option (List ℕ)
change_at copy key before = text_between key (Some before) (at key_cmp copy key)

-- what is said of a document that wasn't
abbrev pub new_at : Rows → Key → Entries → Option (List ℕ)
new_at given key after = if is_some (at key_cmp given key) then None else text_between key None (Some after)

-- the map with what f says of each entry
abbrev pub put_all : {K X Y : Type 0} → (K → K → Ordering) → (K → X → Option Y) → List (K × Y) → List (K × X) → List (K × Y)
put_all R f m [] = m
put_all R f m (row ∷ rows) = put_all R f (put_some R m row.0 (f row.0 row.1)) rows
