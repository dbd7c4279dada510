-- What an operation makes of a store's contents, or why it is refused: insert, update and remove as in MongoDB's documentation of a collection's
-- methods. The codes, their order and the limits are this project's own.
use Rattle.std.specs.Prelude.{ℕ, pos, Bool, List, [], ◌∷◌, length, take, map, filter, Option, None, Some, is_some, Result, Ok, Err, if◌then◌else◌}
use Rattle.std.specs.List.{list_any}
use Rattle.std.specs.Map.{keys_of}
use Rattle.map_model.specs.Maps.{at}
use Rattle.map_model.specs.Changes.{changed}
use Rattle.value_model.specs.Val.{Val, int, text, Entries}
use Rattle.value_model.specs.Size.{is_name}
use Rattle.ejson_value.specs.declared.key.Key.{Key}
use Rattle.ejson_value.specs.declared.change.Change.{Change}
use Rattle.ejson_value.specs.Key.{key_cmp, key_of}
use Rattle.ejson_value.specs.Rows.{Rows, rows_of}
use Rattle.ejson_value.specs.Changes.{changes_of}
use Rattle.ejson_value.specs.Results.{made, with_both, and_then}
use Rattle.selector_match.specs.Query.{Query}
use Rattle.selector_match.specs.Holds.{holds}
use Rattle.modifier_apply.specs.declared.fault.ApplyFault.{ApplyFault}
use Rattle.modifier_apply.specs.Change.{Modification}
use Rattle.modifier_apply.specs.Modified.{modified, refusal_number, same}
use Rattle.collection_store.specs.declared.fault.OpFault.{OpFault}
use Rattle.collection_store.specs.declared.fault.OpFault.TheVariants as fault
use Rattle.collection_store.specs.declared.operation.Op.{Op}
use Rattle.collection_store.specs.declared.operation.Op.TheVariants as operation
use Rattle.collection_store.specs.Outcome.{Outcome}
use Rattle.collection_store.specs.Limits.{document, is_too_large, is_full}

-- a document with its key
abbrev pub Row : Type 0
Row = Key × Entries

-- the collection is one of those of these names
abbrev pub is_listed : List (List ℕ) → List ℕ → Bool
is_listed names collection = list_any (λ name. is_name name collection) names

-- 404 where it is not
abbrev pub if_listed : {X : Type 0} → List (List ℕ) → List ℕ → Outcome X → Outcome X
if_listed names collection outcome = if is_listed names collection then outcome else Err fault.NoCollection

-- the collection's documents that the selector holds of, by id
abbrev pub matching : List ℕ → Query → Rows → Rows
matching collection selector rows = filter (λ row. holds selector row.0.id row.1) (rows_of collection rows)

-- all of them, or the first
abbrev pub chosen : Bool → Rows → Rows
chosen all rows = if all then rows else take 1 rows

-- the rows once each change has put its `after` at its key, or has taken out what is there
abbrev pub after : Rows → List Change → Rows
after rows changes = changed key_cmp rows (changes_of changes)

-- what an operation does: the documents that differ, those that it inserts, matches or removes, and its answer
pub record Plan : Type 0 where
  pub changes : List Change
  pub touched : List Key
  pub answer : Val

-- what it leaves behind
pub record Applied : Type 0 where
  pub rows : Rows
  pub changes : List Change
  pub touched : List Key
  pub answer : Val

abbrev pub done : Rows → Plan → Applied
done rows plan = record { rows = after rows plan.changes; changes = plan.changes; touched = plan.touched; answer = plan.answer }

-- 507 where the store has no room for the new documents
abbrev pub if_room : Rows → ℕ → Plan → Outcome Applied
if_room rows room plan = if is_full (after rows plan.changes) plan.changes room then Err fault.Full else Ok (done rows plan)

abbrev pub change_to : Row → Entries → Change
change_to row doc = record { key = row.0; before = Some row.1; after = Some doc }

abbrev pub removal : Row → Change
removal row = record { key = row.0; before = Some row.1; after = None }

abbrev pub number_of : ℕ → Val
number_of count = int (pos count)

-- insert: 409 where a document has the key, then 413. The answer is the id.
abbrev pub insertion : Key → Entries → Plan
insertion key doc = record { changes = record { key = key; before = None; after = Some doc } ∷ []; touched = key ∷ []; answer = text key.id }

abbrev pub insert_plan : Rows → Key → Entries → Outcome Plan
insert_plan rows key doc =
    if is_some (at key_cmp rows key) then Err fault.Duplicate else (if is_too_large doc then Err fault.TooLarge else Ok (insertion key doc))

-- 422, with the number of the modifier's refusal
abbrev pub by_number : Option ℕ → OpFault
by_number (Some number) = fault.Modifier number
by_number None = fault.Memory

abbrev pub or_refused : Result Entries ApplyFault → Outcome Entries
or_refused (Ok doc) = Ok doc
or_refused (Err refusal) = Err (by_number (refusal_number refusal))

-- no change where the document stays as it is
abbrev pub change_if_differs : Row → Entries → Option Change
change_if_differs row doc = if same (document row.1) (document doc) then None else Some (change_to row doc)

-- update: for each document 422, then 413
abbrev pub updated : Modification → Row → Outcome (Option Change)
updated modifier row = and_then (or_refused (modified modifier row.0.id row.1))
    (λ doc. if is_too_large doc then Err fault.TooLarge else Ok (change_if_differs row doc))

abbrev pub with_change : Option Change → List Change → List Change
with_change None changes = changes
with_change (Some change) changes = change ∷ changes

abbrev pub all_updated : Modification → Rows → Outcome (List Change)
all_updated modifier [] = Ok []
all_updated modifier (row ∷ rows) = with_both with_change (updated modifier row) (all_updated modifier rows)

-- changes of documents that were found. The answer is how many there are.
abbrev pub plan_for : Rows → List Change → Plan
plan_for found changes = record { changes = changes; touched = keys_of found; answer = number_of (length found) }

abbrev pub update_plan : Modification → Rows → Outcome Plan
update_plan modifier found = made (λ changes. plan_for found changes) (all_updated modifier found)

-- remove
abbrev pub remove_plan : Rows → Plan
remove_plan found = plan_for found (map removal found)

-- what an operation makes of the rows of a store with these collections, where its new documents may have as many bytes as there is room
abbrev pub applied : List (List ℕ) → Rows → Op → ℕ → Outcome Applied
applied names rows (operation.Insert collection id doc) room =
    if_listed names collection (and_then (insert_plan rows (key_of collection id) doc) (λ plan. if_room rows room plan))
applied names rows (operation.Update collection selector modifier all) room =
    if_listed names collection (and_then (update_plan modifier (chosen all (matching collection selector rows))) (λ plan. if_room rows room plan))
applied names rows (operation.Remove collection selector) room = if_listed names collection (Ok (done rows (remove_plan (matching collection selector rows))))
