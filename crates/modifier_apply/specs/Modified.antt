-- What a modifier makes of a document (update operators, in MongoDB's documentation).
use Rattle.std.specs.Prelude.{◌≡◌, ℕ, ℤ, pos, ◌+ℤ◌, neg_ℤ, Bool, true, false, not, codes, List, [], ◌∷◌, ◌++◌, length, drop, take, replicate, filter}
use Rattle.std.specs.Prelude.{map, Option, None, Some, is_some, unwrap_or, Result, Ok, Err, slice_get, slice_set, nat_le, nat_lt, int_lt, bytes_eq}
use Rattle.std.specs.Prelude.{if◌then◌else◌, ◌&&◌, ◌||◌, ◌-◌}
use Rattle.std.specs.List.{list_any}
use Rattle.std.specs.Ordering.{is_lt, is_gt}
use Rattle.value_model.specs.Val.{Val, null, int, text, list, object, Entries, vals_of, list_of, fields_of, entries_of}
use Rattle.value_model.specs.Order.{compare}
pub use Rattle.value_model.specs.Order.{same_value as same}
use Rattle.value_model.specs.Valid.{max_whole}
use Rattle.value_model.specs.Doc.{get, put, remove}
use Rattle.value_model.specs.Branches.{position_of}
use Rattle.ejson_value.specs.Results.{made}
use Rattle.selector_match.specs.Holds.{fits}
use Rattle.modifier_apply.specs.declared.fault.ApplyFault.{ApplyFault}
use Rattle.modifier_apply.specs.declared.fault.ApplyFault.TheVariants as fault
use Rattle.modifier_apply.specs.Change.{Edit, put_value, take_out, add, keep_least, keep_greatest, append_all, add_missing, drop_equal, drop_passing}
use Rattle.modifier_apply.specs.Change.{drop_last, drop_first, Change, Modification, replaced_by, changed_by}

-- what is made, or why the modifier is refused
abbrev pub Outcome : Type 0 → Type 0
Outcome X = Result X ApplyFault

-- the number of a refusal; want of memory has none
abbrev pub refusal_number : ApplyFault → Option ℕ
refusal_number fault.NotNumber = Some 1
refusal_number fault.NotArray = Some 2
refusal_number fault.PathBlocked = Some 3
refusal_number fault.IdChange = Some 4
refusal_number fault.NumberRange = Some 5
refusal_number fault.Conflict = Some 6
refusal_number fault.Memory = None

-- a value goes at the end, unless an equal one is there
abbrev pub with_one : Val → List Val → List Val
with_one w vs = if list_any (λ v. same v w) vs then vs else vs ++ w ∷ []

-- one value after another
abbrev pub with_missing : List Val → List Val → List Val
with_missing [] vs = vs
with_missing (w ∷ ws) vs = with_missing ws (with_one w vs)

-- a number of 53 bits and a sign
abbrev pub is_whole : ℤ → Bool
is_whole z = not (int_lt z (neg_ℤ (pos max_whole))) && not (int_lt (pos max_whole) z)

abbrev pub added : ℤ → ℤ → Outcome (Option Val)
added n m = if is_whole (m +ℤ n) then Ok (Some (int (m +ℤ n))) else Err fault.NumberRange

abbrev pub to_number : ℤ → Val → Outcome (Option Val)
to_number n (int m) = added n m
to_number n v = Err fault.NotNumber

-- the elements of what must be a list
abbrev pub elements : Val → Outcome (List Val)
elements (list vs) = Ok (list_of vs)
elements v = Err fault.NotArray

-- what an edit of a list leaves of its elements
abbrev pub list_edited : Edit → List Val → List Val
list_edited (append_all vs) ws = ws ++ vs
list_edited (add_missing vs) ws = with_missing vs ws
list_edited (drop_equal v) ws = filter (λ x. not (same x v)) ws
list_edited (drop_passing t) ws = filter (λ x. not (fits t x)) ws
list_edited drop_last ws = take (length ws - 1) ws
list_edited drop_first ws = drop 1 ws
list_edited _ ws = ws

-- what an edit leaves of a value, if it leaves one
abbrev pub edited : Edit → Val → Outcome (Option Val)
edited (put_value v) w = Ok (Some v)
edited take_out w = Ok None
edited (add n) w = to_number n w
edited (keep_least v) w = Ok (Some (if is_lt (compare v w) then v else w))
edited (keep_greatest v) w = Ok (Some (if is_gt (compare v w) then v else w))
edited e w = made (λ ws. Some (list (vals_of (list_edited e ws)))) (elements w)

-- What an edit makes where nothing is: `$unset`, `$pull` and `$pop` make nothing.
abbrev pub made_anew : Edit → Option Val
made_anew (put_value v) = Some v
made_anew (add n) = Some (int n)
made_anew (keep_least v) = Some v
made_anew (keep_greatest v) = Some v
made_anew (append_all vs) = Some (list (vals_of vs))
made_anew (add_missing vs) = Some (list (vals_of (with_missing vs [])))
made_anew _ = None

abbrev pub makes : Edit → Bool
makes e = is_some (made_anew e)

abbrev pub edited_if_there : Edit → Option Val → Outcome (Option Val)
edited_if_there e None = Ok (made_anew e)
edited_if_there e (Some w) = edited e w

-- Where the path can't go on: an edit that makes something is refused, another leaves all as it is.
abbrev pub blocked : {X : Type 0} → Edit → X → Outcome X
blocked e x = if makes e then Err fault.PathBlocked else Ok x

-- an object with what is left of a field, which is taken out where nothing is left
abbrev pub with_field : Entries → List ℕ → Option Val → Entries
with_field fields name None = remove fields name
with_field fields name (Some v) = put fields name v

abbrev pub field_changed : (Option Val → Outcome (Option Val)) → Entries → List ℕ → Outcome Entries
field_changed change fields name = made (λ left. with_field fields name left) (change (get fields name))

-- the last position that a modifier reaches in a list
abbrev pub max_place : ℕ
max_place = 9999

-- a value behind the others, with nulls in the places between
abbrev pub put_behind : List Val → ℕ → Option Val → List Val
put_behind vs place None = vs
put_behind vs place (Some v) = (vs ++ replicate (place - length vs) null) ++ v ∷ []

-- a list with what is left of an element, which becomes null where nothing is left
abbrev pub with_element : List Val → ℕ → Option Val → List Val
with_element vs place left = if nat_lt place (length vs) then slice_set vs place (unwrap_or left null) else put_behind vs place left

abbrev pub element_changed : Edit → (Option Val → Outcome (Option Val)) → List Val → Option ℕ → Outcome (List Val)
element_changed e change vs None = blocked e vs
element_changed e change vs (Some place) =
    if nat_le place max_place then made (λ left. with_element vs place left) (change (slice_get vs place)) else blocked e vs

-- What is left of what is there, with the edit made at the end of the path. On the way a missing value becomes an empty object where the edit makes something.
abbrev pub changed_at : Edit → List (List ℕ) → Option Val → Outcome (Option Val)
changed_at e [] there = edited_if_there e there
changed_at e (part ∷ rest) None =
    if makes e then made (λ fields. Some (object (fields_of fields))) (field_changed (λ there. changed_at e rest there) [] part) else Ok None
changed_at e (part ∷ rest) (Some (object fs)) =
    made (λ fields. Some (object (fields_of fields))) (field_changed (λ there. changed_at e rest there) (entries_of fs) part)
changed_at e (part ∷ rest) (Some (list vs)) =
    made (λ ws. Some (list (vals_of ws))) (element_changed e (λ there. changed_at e rest there) (list_of vs) (position_of part))
changed_at e (part ∷ rest) (Some v) = made Some (blocked e v)

abbrev pub document_changed : Edit → List (List ℕ) → Entries → Outcome Entries
document_changed e [] doc = Ok doc
document_changed e (part ∷ rest) doc = field_changed (λ there. changed_at e rest there) doc part

-- one path is the other, or begins it
abbrev pub is_prefix : List (List ℕ) → List (List ℕ) → Bool
is_prefix [] path = true
is_prefix (part ∷ parts) [] = false
is_prefix (part ∷ parts) (other ∷ others) = bytes_eq part other && is_prefix parts others

abbrev pub meets : List (List ℕ) → List (List ℕ) → Bool
meets a b = is_prefix a b || is_prefix b a

-- two of the paths meet
abbrev pub conflicts : List (List (List ℕ)) → Bool
conflicts [] = false
conflicts (path ∷ paths) = list_any (λ other. meets path other) paths || conflicts paths

abbrev pub paths_of : List Change → List (List (List ℕ))
paths_of cs = map (λ c. c.path) cs

abbrev pub begins_with_id : List (List ℕ) → Bool
begins_with_id [] = false
begins_with_id (part ∷ rest) = bytes_eq part (codes "_id")

abbrev pub changes_id : Change → Bool
changes_id c = begins_with_id c.path

-- one change after another, up to the first refusal
abbrev pub all_made : List Change → Outcome Entries → Outcome Entries
all_made [] outcome = outcome
all_made (c ∷ cs) (Err e) = Err e
all_made (c ∷ cs) (Ok doc) = all_made cs (document_changed c.edit c.path doc)

-- The fields of a replacement are those but `_id`, which may be the id and nothing else.
abbrev pub replacement : Entries → List ℕ → Option Val → Outcome Entries
replacement fields id None = Ok fields
replacement fields id (Some v) = if same v (text id) then Ok (remove fields (codes "_id")) else Err fault.IdChange

-- Conflicts are tested first, over all paths, then `_id`.
abbrev pub updated : List Change → Entries → Outcome Entries
updated cs doc = if conflicts (paths_of cs) then Err fault.Conflict else (if list_any changes_id cs then Err fault.IdChange else all_made cs (Ok doc))

abbrev pub modified : Modification → List ℕ → Entries → Outcome Entries
modified (replaced_by fields) id doc = replacement fields id (get fields (codes "_id"))
modified (changed_by cs) id doc = updated cs doc

-- The call answers as the definition says, or want of memory.
abbrev pub Gives : {T X : Type 0} → (T → X) → Result T ApplyFault → Outcome X → Type 0
Gives f (Ok t) outcome = outcome ≡ Ok (f t)
Gives f (Err fault.Memory) outcome = Unit {0}
Gives f (Err e) outcome = outcome ≡ Err e
