-- How much a store holds.
use Rattle.std.specs.Prelude.{ℕ, List, length, sum_by, Option, Some, None, Bool, nat_lt, ◌||◌}
use Rattle.value_model.specs.Val.{Val, object, Entries, fields_of}
use Rattle.value_model.specs.Size.{size}
use Rattle.value_model.specs.Depth.{depth}
use Rattle.ejson_value.specs.declared.change.Change.{Change}
use Rattle.ejson_value.specs.Rows.{Rows}

-- a document's fields, without `_id`, as a value
abbrev pub document : Entries → Val
document doc = object (fields_of doc)

-- a document has at most 1,048,576 bytes as EJSON text, and 32 levels
abbrev pub max_document_size : ℕ
max_document_size = 1048576

abbrev pub max_document_depth : ℕ
max_document_depth = 32

-- a store has at most 262,144 documents, with 67,108,864 bytes in all
abbrev pub max_documents : ℕ
max_documents = 262144

abbrev pub max_bytes : ℕ
max_bytes = 67108864

abbrev pub is_too_large : Entries → Bool
is_too_large doc = nat_lt max_document_size (size (document doc)) || nat_lt max_document_depth (depth (document doc))

-- the bytes of all documents
abbrev pub bytes_of : Rows → ℕ
bytes_of rows = sum_by (λ row. size (document row.1)) rows

abbrev pub size_if : Option Entries → ℕ
size_if None = 0
size_if (Some doc) = size (document doc)

-- the bytes of the documents before and after changes
abbrev pub old_bytes : List Change → ℕ
old_bytes changes = sum_by (λ (c : Change). size_if c.before) changes

abbrev pub new_bytes : List Change → ℕ
new_bytes changes = sum_by (λ (c : Change). size_if c.after) changes

-- the rows, which the changes led to, are too many or too large, or the new documents pass the room
abbrev pub is_full : Rows → List Change → ℕ → Bool
is_full rows changes room = nat_lt max_documents (length rows) || nat_lt max_bytes (bytes_of rows) || nat_lt room (new_bytes changes)
