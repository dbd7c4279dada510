-- What is noted of changes, one after another, by a cursor without a limit and by one with a limit.
use Rattle.std.specs.Prelude.{◌≡◌, ℕ, Bool, true, false, List, [], ◌∷◌, Option, None, Some, option_and_then, if◌then◌else◌}
use Rattle.std.specs.Ordering.{is_eq}
use Rattle.map_model.specs.Maps.{at, set, filter_map_entries}
use Rattle.value_model.specs.Val.{object, Entries, fields_of, entries_of}
use Rattle.value_model.specs.Order.{text_cmp, compare}
use Rattle.value_model.specs.Size.{is_name}
use Rattle.ejson_value.specs.declared.change.Change.{Change}
use Rattle.ejson_value.specs.declared.key.Key.{Key}
use Rattle.ejson_value.specs.Key.{key_cmp, key_of}
use Rattle.ejson_value.specs.Rows.{Rows}
use Rattle.selector_match.specs.Holds.{holds}
use Rattle.sort_window.specs.declared.rows.Row.{Row}
use Rattle.sort_window.specs.Shown.{RowMap, NewsMap}
use Rattle.sort_window.specs.Windows.{WindowState}
use Rattle.publication.specs.declared.cursor.Cursor.{Cursor}
use Rattle.publication.specs.Projected.{projected}
use Rattle.publication.specs.Published.{published_of}
use Rattle.live_observer.specs.declared.plain.Net.{Net}
use Rattle.live_observer.specs.Observing.{row_of, is_own}

-- what the cursor publishes of the document of its collection with this id
abbrev pub seen : Cursor → Rows → List ℕ → Option Entries
seen cursor rows id = option_and_then (published_of cursor rows id) (at key_cmp rows (key_of cursor.collection id))

-- what a cursor without a limit publishes of a document
abbrev pub plain_of : Cursor → List ℕ → Entries → Option Entries
plain_of cursor id doc = if holds cursor.selector id doc then Some (entries_of (projected cursor.fields (fields_of doc))) else None

abbrev pub plain : Cursor → List ℕ → Option Entries → Option Entries
plain cursor id doc = option_and_then (plain_of cursor id) doc

-- a document that matches
abbrev pub row_if : Cursor → List ℕ → Entries → Option Row
row_if cursor id doc = if holds cursor.selector id doc then Some (row_of cursor doc) else None

abbrev pub row_at : Cursor → List ℕ → Option Entries → Option Row
row_at cursor id doc = option_and_then (row_if cursor id) doc

abbrev pub NetMap : Type 0
NetMap = List (List ℕ × Net)

-- what was published before the first change at an id
abbrev pub before_first : Cursor → Change → Option Net → Option Entries
before_first cursor change None = plain cursor change.key.id change.before
before_first cursor change (Some net) = net.before

abbrev pub net_of : Cursor → Option Net → Change → Net
net_of cursor held change = record { before = before_first cursor change held; after = plain cursor change.key.id change.after }

abbrev pub noted : Cursor → NetMap → Change → NetMap
noted cursor nets change = if is_own cursor change then set text_cmp nets change.key.id (Some (net_of cursor (at text_cmp nets change.key.id) change)) else nets

abbrev pub all_noted : Cursor → NetMap → List Change → NetMap
all_noted cursor nets [] = nets
all_noted cursor nets (change ∷ changes) = all_noted cursor (noted cursor nets change) changes

abbrev pub news_with : Cursor → NewsMap → Change → NewsMap
news_with cursor news change = if is_own cursor change then set text_cmp news change.key.id (Some (row_at cursor change.key.id change.after)) else news

abbrev pub all_news : Cursor → NewsMap → List Change → NewsMap
all_news cursor news [] = news
all_news cursor news (change ∷ changes) = all_news cursor (news_with cursor news change) changes

-- news of the documents of the cursor's collection that match
abbrev pub put_row : Cursor → NewsMap → List ℕ → Entries → NewsMap
put_row cursor news id doc = if holds cursor.selector id doc then set text_cmp news id (Some (Some (row_of cursor doc))) else news

abbrev pub put_rows : Cursor → NewsMap → Rows → NewsMap
put_rows cursor news [] = news
put_rows cursor news (row ∷ rows) = put_rows cursor (put_row cursor news row.0.id row.1) rows

abbrev pub is_same : Option Entries → Option Entries → Bool
is_same None None = true
is_same (Some a) (Some b) = is_eq (compare (object (fields_of a)) (object (fields_of b)))
is_same a b = false

-- what is told of a document
abbrev pub net_told : List ℕ → Net → Option (Option Entries)
net_told id net = if is_same net.before net.after then None else Some net.after

abbrev pub all_told : NetMap → List (List ℕ × Option Entries)
all_told nets = filter_map_entries net_told nets

-- rows with news of them
abbrev pub rows_with : RowMap → NewsMap → RowMap
rows_with rows [] = rows
rows_with rows (one ∷ news) = rows_with (set text_cmp rows one.0 one.1) news

abbrev pub window_with : WindowState → NewsMap → WindowState
window_with window news = record window { rows = rows_with window.rows news }
