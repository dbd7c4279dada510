-- An insert, told by what the store holds before it.
use Rattle.std.specs.Prelude.{◌≡◌, ℕ, ◌+◌, ◌≤◌, length, Bool, false, nat_lt, ◌||◌}
use Rattle.value_model.specs.Val.{Entries}
use Rattle.value_model.specs.Size.{size}
use Rattle.ejson_value.specs.declared.key.Key.{Key}
use Rattle.ejson_value.specs.Rows.{Rows}
use Rattle.ejson_value.specs.Results.{and_then}
use Rattle.collection_store.specs.Outcome.{Outcome}
use Rattle.collection_store.specs.Limits.{document, is_too_large, bytes_of, max_documents, max_bytes}
use Rattle.collection_store.specs.Applied.{Applied, insert_plan, if_room}

-- what an insert of a document at a key gives
abbrev pub inserted : Rows → Key → Entries → ℕ → Outcome Applied
inserted rows key doc room = and_then (insert_plan rows key doc) (λ plan. if_room rows room plan)

-- with the document the rows would be too many or too large, or it passes the room
abbrev pub is_full_with : Rows → Entries → ℕ → Bool
is_full_with rows doc room =
    nat_lt max_documents (length rows + 1) || nat_lt max_bytes (bytes_of rows + size (document doc)) || nat_lt room (size (document doc))

-- there is room for the document
pub record HasRoom (rows : Rows) (doc : Entries) (room : ℕ) : Type 0 where
  pub few : length rows + 1 ≤ max_documents
  pub small : bytes_of rows + size (document doc) ≤ max_bytes
  pub within : size (document doc) ≤ room

-- a document that isn't refused, unless one has its key
pub record Fits (rows : Rows) (doc : Entries) (room : ℕ) : Type 0 where
  pub low : is_too_large doc ≡ false
  pub free : HasRoom rows doc room
