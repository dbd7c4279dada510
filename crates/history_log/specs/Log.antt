-- A log: the entries of a history, oldest first, each with the changes that it made.
use Rattle.std.specs.Prelude.{ℕ, ◌-◌, List, [], ◌∷◌, length, take, drop, map}
use Rattle.std.specs.List.{flat_map}
use Rattle.map_model.specs.Changes.{changed}
use Rattle.ejson_value.specs.declared.change.Change.{Change}
use Rattle.ejson_value.specs.Changes.{changes_of}
use Rattle.ejson_value.specs.Key.{key_cmp}
use Rattle.ejson_value.specs.Rows.{Rows}
use Rattle.history_model.specs.declared.entry.Entry.{Entry}
use Rattle.history_log.specs.declared.log.Logged.{Logged}

abbrev pub entries_in : List Logged → List Entry
entries_in logged = map (λ (l : Logged). l.entry) logged

-- the changes that the entries made, one after another
abbrev pub changes_in : List Logged → List Change
changes_in logged = flat_map (λ (l : Logged). l.changes) logged

-- those of the entries behind a place, this many
abbrev pub changes_behind : List Logged → ℕ → ℕ → List Change
changes_behind logged place count = changes_in (take count (drop place logged))

-- the documents that changes lead to, where there were none
abbrev pub rows_by : List Change → Rows
rows_by changes = changed key_cmp [] (changes_of changes)

-- those after the first entries, this many
abbrev pub rows_after : List Logged → ℕ → Rows
rows_after logged place = rows_by (changes_in (take place logged))

abbrev pub without_last : List Logged → List Logged
without_last logged = take (length logged - 1) logged

-- the last entry made these changes
abbrev pub settled : List Logged → List Change → List Logged
settled [] changes = []
settled (l ∷ []) changes = record l { changes = changes } ∷ []
settled (l ∷ m ∷ ls) changes = l ∷ settled (m ∷ ls) changes
