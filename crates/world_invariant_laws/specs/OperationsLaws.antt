-- Laws: An operation that is refused has a code: no definition of what it makes answers want of memory.
use Rattle.std.specs.Prelude.{◌≡◌, ℕ, ℤ, ◌+ℤ◌, List, [], ◌∷◌, Bool, true, false, cond, nat_le, Option, None, Some, Ok, Err, is_some, codes, slice_get}
use Rattle.std.specs.Prelude.{if◌then◌else◌, refl}
use Rattle.std.specs.List.{list_any}
use Rattle.map_model.specs.Maps.{at}
use Rattle.value_model.specs.Val.{Val, int, text, list, object, Entries, vals_of, list_of, fields_of, entries_of}
use Rattle.value_model.specs.Doc.{get, remove}
use Rattle.value_model.specs.Branches.{position_of}
use Rattle.ejson_value.specs.declared.key.Key.{Key}
use Rattle.ejson_value.specs.Key.{key_cmp, key_of}
use Rattle.ejson_value.specs.Results.{made, with_both, and_then}
use Rattle.ejson_value.specs.Rows.{Rows}
use Rattle.modifier_apply.specs.declared.fault.ApplyFault.TheVariants as modifier
use Rattle.modifier_apply.specs.Change.{Edit, put_value, take_out, add, keep_least, keep_greatest, append_all, add_missing, drop_equal, drop_passing}
use Rattle.modifier_apply.specs.Change.{drop_last, drop_first, Modification, replaced_by, changed_by}
use Rattle.modifier_apply.specs.Change as edit
use Rattle.modifier_apply.specs.Modified.{refusal_number, same, is_whole, to_number, elements, list_edited, edited, edited_if_there, makes, blocked}
use Rattle.modifier_apply.specs.Modified.{with_field, field_changed, max_place, with_element, element_changed, changed_at, document_changed}
use Rattle.modifier_apply.specs.Modified.{conflicts, paths_of, changes_id, all_made, replacement, modified}
use Rattle.modifier_apply.specs.Modified as apply
use Rattle.collection_store.specs.Outcome.{Outcome, code_of}
use Rattle.collection_store.specs.declared.fault.OpFault.TheVariants as fault
use Rattle.collection_store.specs.declared.operation.Op.{Op}
use Rattle.collection_store.specs.declared.operation.Op.TheVariants as operation
use Rattle.collection_store.specs.Limits.{is_too_large, is_full}
use Rattle.collection_store.specs.Applied.{Row, Plan, is_listed, if_listed, matching, chosen, after, done, if_room, insertion, insert_plan, by_number}
use Rattle.collection_store.specs.Applied.{or_refused, change_if_differs, with_change, all_updated, plan_for, update_plan, remove_plan, applied}
use Rattle.collection_store.specs.Applied as store
use Rattle.world_invariant_laws.specs.Operations.{HasNumber, IsCoded}

-- ---- modifiers

made_number : {X Y : Type 0} (f : X → Y) (o : apply.Outcome X) → HasNumber o → HasNumber (made f o)
made_number f (Ok x) h = tt
made_number f (Err e) h = h

number_if : {X : Type 0} (b : Bool) (x y : apply.Outcome X) → HasNumber x → HasNumber y → HasNumber (cond b x y)
number_if true x y p q = p
number_if false x y p q = q

added_number : (n : ℤ) (w : Val) → HasNumber (to_number n w)
added_number n (int m) = number_if (is_whole (m +ℤ n)) (Ok (Some (int (m +ℤ n)))) (Err modifier.NumberRange) tt (λ e. cc e)
added_number n w = λ e. cc e

elements_number : (w : Val) → HasNumber (elements w)
elements_number (list vs) = tt
elements_number w = λ e. cc e

edited_number : (e : Edit) (w : Val) → HasNumber (edited e w)
edited_number (put_value v) w = tt
edited_number take_out w = tt
edited_number (add n) w = added_number n w
edited_number (keep_least v) w = tt
edited_number (keep_greatest v) w = tt
edited_number (append_all vs) w = made_number (λ ws. Some (list (vals_of (list_edited (append_all vs) ws)))) (elements w) (elements_number w)
edited_number (add_missing vs) w = made_number (λ ws. Some (list (vals_of (list_edited (add_missing vs) ws)))) (elements w) (elements_number w)
edited_number (drop_equal v) w = made_number (λ ws. Some (list (vals_of (list_edited (drop_equal v) ws)))) (elements w) (elements_number w)
edited_number (drop_passing t) w = made_number (λ ws. Some (list (vals_of (list_edited (drop_passing t) ws)))) (elements w) (elements_number w)
edited_number drop_last w = made_number (λ ws. Some (list (vals_of (list_edited drop_last ws)))) (elements w) (elements_number w)
edited_number drop_first w = made_number (λ ws. Some (list (vals_of (list_edited drop_first ws)))) (elements w) (elements_number w)

there_number : (e : Edit) (o : Option Val) → HasNumber (edited_if_there e o)
there_number e None = tt
there_number e (Some w) = edited_number e w

blocked_number : {X : Type 0} (e : Edit) (x : X) → HasNumber (blocked e x)
blocked_number e x = number_if (makes e) (Err modifier.PathBlocked) (Ok x) (λ e. cc e) tt

field_number : (change : Option Val → apply.Outcome (Option Val)) (fields : Entries) (name : List ℕ) → ((o : Option Val) → HasNumber (change o)) →
    HasNumber (field_changed change fields name)
field_number change fields name h = made_number (λ left. with_field fields name left) (change (get fields name)) (h (get fields name))

element_number : (e : Edit) (change : Option Val → apply.Outcome (Option Val)) (vs : List Val) (place : Option ℕ) →
    ((o : Option Val) → HasNumber (change o)) → HasNumber (element_changed e change vs place)
element_number e change vs None h = blocked_number e vs
element_number e change vs (Some place) h =
    number_if (nat_le place max_place) (made (λ left. with_element vs place left) (change (slice_get vs place))) (blocked e vs)
    (made_number (λ left. with_element vs place left) (change (slice_get vs place)) (h (slice_get vs place))) (blocked_number e vs)

changed_number : (e : Edit) (path : List (List ℕ)) (o : Option Val) → HasNumber (changed_at e path o)
changed_number e [] o = there_number e o
changed_number e (part ∷ rest) None =
    number_if (makes e) (made (λ fields. Some (object (fields_of fields))) (field_changed (λ there. changed_at e rest there) [] part)) (Ok None)
    (made_number (λ fields. Some (object (fields_of fields))) (field_changed (λ there. changed_at e rest there) [] part)
    (field_number (λ there. changed_at e rest there) [] part (λ o. changed_number e rest o))) tt
changed_number e (part ∷ rest) (Some (object fs)) =
    made_number (λ fields. Some (object (fields_of fields))) (field_changed (λ there. changed_at e rest there) (entries_of fs) part)
    (field_number (λ there. changed_at e rest there) (entries_of fs) part (λ o. changed_number e rest o))
changed_number e (part ∷ rest) (Some (list vs)) =
    made_number (λ ws. Some (list (vals_of ws))) (element_changed e (λ there. changed_at e rest there) (list_of vs) (position_of part))
    (element_number e (λ there. changed_at e rest there) (list_of vs) (position_of part) (λ o. changed_number e rest o))
changed_number e (part ∷ rest) (Some v) = made_number Some (blocked e v) (blocked_number e v)

document_number : (e : Edit) (path : List (List ℕ)) (doc : Entries) → HasNumber (document_changed e path doc)
document_number e [] doc = tt
document_number e (part ∷ rest) doc = field_number (λ there. changed_at e rest there) doc part (λ o. changed_number e rest o)

all_number : (cs : List edit.Change) (o : apply.Outcome Entries) → HasNumber o → HasNumber (all_made cs o)
all_number [] o h = h
all_number (c ∷ cs) (Err e) h = h
all_number (c ∷ cs) (Ok doc) h = all_number cs (document_changed c.edit c.path doc) (document_number c.edit c.path doc)

replacement_number : (fields : Entries) (id : List ℕ) (o : Option Val) → HasNumber (replacement fields id o)
replacement_number fields id None = tt
replacement_number fields id (Some v) = number_if (same v (text id)) (Ok (remove fields (codes "_id"))) (Err modifier.IdChange) tt (λ e. cc e)

modified_number : (m : Modification) (id : List ℕ) (doc : Entries) → HasNumber (modified m id doc)
modified_number (replaced_by fields) id doc = replacement_number fields id (get fields (codes "_id"))
modified_number (changed_by cs) id doc =
    number_if (conflicts (paths_of cs)) (Err modifier.Conflict) (if list_any changes_id cs then Err modifier.IdChange else all_made cs (Ok doc)) (λ e. cc e)
    (number_if (list_any changes_id cs) (Err modifier.IdChange) (all_made cs (Ok doc)) (λ e. cc e) (all_number cs (Ok doc) tt))

-- ---- operations

coded_if : {X : Type 0} (b : Bool) (x y : Outcome X) → IsCoded x → IsCoded y → IsCoded (cond b x y)
coded_if true x y p q = p
coded_if false x y p q = q

then_coded : {X Y : Type 0} (o : Outcome X) (f : X → Outcome Y) → IsCoded o → ((x : X) → IsCoded (f x)) → IsCoded (and_then o f)
then_coded (Ok x) f h g = g x
then_coded (Err e) f h g = h

made_coded : {X Y : Type 0} (f : X → Y) (o : Outcome X) → IsCoded o → IsCoded (made f o)
made_coded f (Ok x) h = tt
made_coded f (Err e) h = h

both_coded : {X Y Z : Type 0} (f : X → Y → Z) (o : Outcome X) (p : Outcome Y) → IsCoded o → IsCoded p → IsCoded (with_both f o p)
both_coded f (Err e) p h g = h
both_coded f (Ok x) (Err e) h g = g
both_coded f (Ok x) (Ok y) h g = tt

by_number_coded : (o : Option ℕ) → (o ≡ None → ⊥) → code_of (by_number o) ≡ None → ⊥
by_number_coded None h e = h refl
by_number_coded (Some n) h e = cc e

refused_coded : (o : apply.Outcome Entries) → HasNumber o → IsCoded (or_refused o)
refused_coded (Ok doc) h = tt
refused_coded (Err e) h = by_number_coded (refusal_number e) h

updated_coded : (m : Modification) (row : Row) → IsCoded (store.updated m row)
updated_coded m row =
    then_coded (or_refused (modified m row.0.id row.1)) (λ doc. if is_too_large doc then Err fault.TooLarge else Ok (change_if_differs row doc))
    (refused_coded (modified m row.0.id row.1) (modified_number m row.0.id row.1))
    (λ doc. coded_if (is_too_large doc) (Err fault.TooLarge) (Ok (change_if_differs row doc)) (λ e. cc e) tt)

all_coded : (m : Modification) (rows : Rows) → IsCoded (all_updated m rows)
all_coded m [] = tt
all_coded m (row ∷ rows) = both_coded with_change (store.updated m row) (all_updated m rows) (updated_coded m row) (all_coded m rows)

room_coded : (rows : Rows) (room : ℕ) (plan : Plan) → IsCoded (if_room rows room plan)
room_coded rows room plan = coded_if (is_full (after rows plan.changes) plan.changes room) (Err fault.Full) (Ok (done rows plan)) (λ e. cc e) tt

insert_coded : (rows : Rows) (key : Key) (doc : Entries) → IsCoded (insert_plan rows key doc)
insert_coded rows key doc =
    coded_if (is_some (at key_cmp rows key)) (Err fault.Duplicate) (if is_too_large doc then Err fault.TooLarge else Ok (insertion key doc)) (λ e. cc e)
    (coded_if (is_too_large doc) (Err fault.TooLarge) (Ok (insertion key doc)) (λ e. cc e) tt)

listed_coded : {X : Type 0} (names : List (List ℕ)) (collection : List ℕ) (o : Outcome X) → IsCoded o → IsCoded (if_listed names collection o)
listed_coded names collection o h = coded_if (is_listed names collection) o (Err fault.NoCollection) h (λ e. cc e)

-- an operation that is refused has a code
pub applied_coded : (names : List (List ℕ)) (rows : Rows) (op : Op) (room : ℕ) → IsCoded (applied names rows op room)
applied_coded names rows (operation.Insert collection id doc) room =
    listed_coded names collection (and_then (insert_plan rows (key_of collection id) doc) (λ plan. if_room rows room plan))
    (then_coded (insert_plan rows (key_of collection id) doc) (λ plan. if_room rows room plan) (insert_coded rows (key_of collection id) doc)
    (λ plan. room_coded rows room plan))
applied_coded names rows (operation.Update collection selector m all) room =
    let found = chosen all (matching collection selector rows) in
    listed_coded names collection (and_then (update_plan m found) (λ plan. if_room rows room plan))
    (then_coded (update_plan m found) (λ plan. if_room rows room plan)
    (made_coded (λ changes. plan_for found changes) (all_updated m found) (all_coded m found)) (λ plan. room_coded rows room plan))
applied_coded names rows (operation.Remove collection selector) room =
    listed_coded names collection (Ok (done rows (remove_plan (matching collection selector rows)))) tt
