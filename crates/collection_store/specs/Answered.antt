-- Replies as plans, and changes that can be made.
use Rattle.std.specs.Prelude.{◌≡◌, ℕ, ◌≤◌, List, [], ◌∷◌, Bool, true}
use Rattle.std.specs.List.{list_any}
use Rattle.std.specs.Ordering.{eq_by_cmp}
use Rattle.map_model.specs.Changes.{Leads}
use Rattle.ejson_value.specs.declared.key.Key.{Key}
use Rattle.ejson_value.specs.declared.change.Change.{Change}
use Rattle.ejson_value.specs.Key.{key_cmp}
use Rattle.ejson_value.specs.Rows.{Rows}
use Rattle.ejson_value.specs.Changes.{changes_of}
use Rattle.ejson_value.specs.ChangeLaws.{AllFit, HaveDistinctKeys}
use Rattle.ejson_value.specs.View.{view}
use Rattle.collection_store.specs.declared.operation.Reply.{Reply}
use Rattle.collection_store.specs.Limits.{new_bytes}
use Rattle.collection_store.specs.Applied.{Plan, Applied}

abbrev pub plan_of : Reply → Plan
plan_of reply = record { changes = reply.changes; touched = reply.touched; answer = view reply.answer }

-- what the operation did, with the rows that it left
abbrev pub applied_as : Rows → Reply → Applied
applied_as rows reply = record { rows = rows; changes = reply.changes; touched = reply.touched; answer = view reply.answer }

-- changes of different documents, each of what the rows have at its key
pub record AreFor (rows : Rows) (changes : List Change) : Type 0 where
  pub fit : AllFit rows changes
  pub apart : HaveDistinctKeys changes

-- the change is at one of the keys
abbrev pub is_touched : List Key → Change → Bool
is_touched keys c = list_any (λ key. eq_by_cmp key_cmp c.key key) keys

abbrev pub AreTouched : List Key → List Change → Type 0
AreTouched keys [] = Unit {0}
AreTouched keys (c ∷ cs) = (is_touched keys c ≡ true) × AreTouched keys cs

-- what an operation that isn't refused does to the rows: its changes are of different documents and lead to the rows that it leaves, their keys are
-- among those that it touches, and its new documents have room
pub record Does (rows : Rows) (room : ℕ) (a : Applied) : Type 0 where
  pub are_for : AreFor rows a.changes
  pub leads : Leads key_cmp (changes_of a.changes) rows a.rows
  pub touched : AreTouched a.touched a.changes
  pub fits : new_bytes a.changes ≤ room
