-- The order of documents by sort keys (the sort specifiers of Meteor's `find`).
use Rattle.std.specs.Prelude.{ℕ, Bool, List, [], ◌∷◌, Option, Some, if◌then◌else◌}
use Rattle.std.specs.declared.cmp.Ordering.{Ordering}
use Rattle.std.specs.declared.cmp.Ordering.TheVariants.{Equal}
use Rattle.std.specs.Ordering.{ordering_then, is_lt}
use Rattle.value_model.specs.Val.{Val, Entries, null, object, fields_of}
use Rattle.value_model.specs.Branches.{field_of}
use Rattle.value_model.specs.Order.{text_cmp, compare}
use Rattle.ejson_value.specs.declared.sort.SortKey.{SortKey}

-- what a path reaches through objects alone; null where there is nothing
abbrev pub reached : List (List ℕ) → Option Val → Val
reached [] (Some v) = v
reached (part ∷ rest) (Some (object fs)) = reached rest (field_of fs part)
reached path _ = null

-- the value of a document to sort by
abbrev pub sort_value : List (List ℕ) → Entries → Val
sort_value path doc = reached path (Some (object (fields_of doc)))

-- by the values at the key's path, the other way round where it is descending
abbrev pub key_cmp : SortKey → Entries → Entries → Ordering
key_cmp key a b =
    if key.descending then compare (sort_value key.path b) (sort_value key.path a) else compare (sort_value key.path a) (sort_value key.path b)

-- the first key that tells two documents apart decides
abbrev pub docs_cmp : List SortKey → Entries → Entries → Ordering
docs_cmp [] a b = Equal
docs_cmp (key ∷ keys) a b = ordering_then (key_cmp key a b) (docs_cmp keys a b)

-- and where none does, the bytes of the ids
abbrev pub id_doc_cmp : List SortKey → List ℕ → Entries → List ℕ → Entries → Ordering
id_doc_cmp sort a_id a b_id b = ordering_then (docs_cmp sort a b) (text_cmp a_id b_id)

-- the first document stands before the other one
abbrev pub is_before : List SortKey → List ℕ → Entries → List ℕ → Entries → Bool
is_before sort a_id a b_id b = is_lt (id_doc_cmp sort a_id a b_id b)
