-- Operations of an administrator: an insert with its `_id`, an update of the first match or of all, a removal. No part of them is a template.
use Rattle.std.specs.Prelude.{ℕ, List, [], ◌∷◌, codes, Bool, true, false, Option, None, Some, option_map, if◌then◌else◌}
use Rattle.value_model.specs.Val.{Val, text}
use Rattle.value_model.specs.Size.{is_name}
use Rattle.selector_match.specs.Query.{Query}
use Rattle.selector_match.specs.Reading as selector
use Rattle.modifier_apply.specs.Change.{Modification}
use Rattle.modifier_apply.specs.Reading as modifier
use Rattle.collection_store.specs.declared.operation.Op.{Op}
use Rattle.collection_store.specs.declared.operation.Op.TheVariants as operation
use Rattle.program_model.specs.Run.{New, new_of, if_ok}

-- the document has an `_id` of its own
abbrev pub insert_of : List ℕ → Option New → Option Op
insert_of collection None = None
insert_of collection (Some new) = if new.is_drawn then None else Some (operation.Insert collection new.id new.doc)

abbrev pub update_by : List ℕ → Bool → Option Query → Option Modification → Option Op
update_by collection all (Some query) (Some modification) = Some (operation.Update collection query modification all)
update_by collection all query modification = None

abbrev pub update_in : List ℕ → Bool → Val → Val → Option Op
update_in collection all s m = update_by collection all (if_ok (selector.reading s)) (if_ok (modifier.reading m))

abbrev pub remove_of : List ℕ → Val → Option Op
remove_of collection s = option_map (λ query. operation.Remove collection query) (if_ok (selector.reading s))

-- an operation by its name, on a collection, with what is written behind that
abbrev pub operation_named : List ℕ → List ℕ → List Val → Option Op
operation_named name collection (v ∷ []) =
    if is_name name (codes "insert") then insert_of collection (new_of [] v) else (if is_name name (codes "remove") then remove_of collection v else None)
operation_named name collection (s ∷ m ∷ []) =
    if is_name name (codes "update") then update_in collection false s m else (if is_name name (codes "updateAll") then update_in collection true s m else None)
operation_named name collection rest = None

-- `["insert",collection,document]`, `["update",collection,selector,modifier]`, `["updateAll",collection,selector,modifier]` or `["remove",collection,selector]`
abbrev pub operation_in : List Val → Option Op
operation_in (text name ∷ text collection ∷ rest) = operation_named name collection rest
operation_in op = None
