-- Laws: A modifier that is read from a value makes a document of values of a document of values.
use Rattle.std.specs.Prelude.{◌≡◌, ℕ, zero, suc, ℤ, pos, negsuc, ◌+ℤ◌, ◌-◌, Bool, true, false, cond, T, List, [], ◌∷◌, ◌++◌, length, take, drop}
use Rattle.std.specs.Prelude.{replicate, filter, codes, bytes_eq, nat_lt, nat_le, not, Option, None, Some, unwrap_or, Ok, Err, IfOk, slice_get}
use Rattle.std.specs.Prelude.{slice_set, refl, if◌then◌else◌}
use Rattle.std.specs.List.{list_any}
use Rattle.std.specs.Ordering.{is_lt, is_gt}
use Rattle.std.specs.BTreeMap.{is_at}
use Rattle.std.specs.Int.Signed.{lt_z_no}
use Rattle.std.proofs.Common.{subst, sym}
use Rattle.map_model.specs.MapLaws.{sorted-nil, sorted-put, sorted-remove}
use Rattle.value_model.specs.Val.{Val, null, int, text, list, object, Vals, Fields, no_fields, field, Entries, vals_of, list_of, fields_of, entries_of}
use Rattle.value_model.specs.ValLaws.{vals_of-list_of, fields_of-entries_of}
use Rattle.value_model.specs.Order.{text_cmp, compare}
use Rattle.value_model.specs.Valid.{IsWhole, IsValue, AreValues, HaveValues, IsDocument}
use Rattle.value_model.specs.ValidLaws.{AreValues-append, AreValues-set, HaveValues-put, HaveValues-remove, HaveValues-lookup, IsValue-object}
use Rattle.value_model.specs.Doc.{get, remove}
use Rattle.value_model.specs.Branches.{path_of, position_of}
use Rattle.value_model.specs.TruthLaws.{both_true}
use Rattle.ejson_value.specs.Key.{name_order}
use Rattle.ejson_value.specs.Results.{made, with_both}
use Rattle.selector_match.specs.Query.{ElementTest}
use Rattle.selector_match.specs.Holds.{fits}
use Rattle.selector_match.specs.Reading.{has_operator, has_plain_name, test_reading}
use Rattle.modifier_apply.specs.declared.fault.ApplyFault.TheVariants as refusal
use Rattle.modifier_apply.specs.declared.fault.ModifierFault.TheVariants as fault
use Rattle.modifier_apply.specs.Change.{Edit, put_value, take_out, add, keep_least, keep_greatest, append_all, add_missing, drop_equal, drop_passing}
use Rattle.modifier_apply.specs.Change.{drop_last, drop_first, Change, Modification, replaced_by, changed_by}
use Rattle.modifier_apply.specs.Modified.{Outcome, same, with_one, with_missing, is_whole, added, to_number, elements, list_edited, edited, made_anew}
use Rattle.modifier_apply.specs.Modified.{makes, blocked, with_field, field_changed, max_place, put_behind, with_element, element_changed, changed_at}
use Rattle.modifier_apply.specs.Modified.{document_changed, conflicts, paths_of, changes_id, all_made, replacement, modified}
use Rattle.modifier_apply.specs.Reading.{Reading, operator_named, plain_path, list_reading, each_reading, values_reading, increment_reading}
use Rattle.modifier_apply.specs.Reading.{from_test, pull_reading, pop_reading, change_of, operator_reading, changes_reading, reading}
use Rattle.world_values_laws.specs.ModifierValues.{AreEdits, AreListed, IsChange, IsEdit, IsLeft, IsModification, Keeps}

-- ---- lists

listed : (vs : Vals) → AreValues vs → AreListed (list_of vs)
listed vs all = subst AreValues (sym (vals_of-list_of vs)) all

listed_append : (vs ws : List Val) → AreListed vs → AreListed ws → AreListed (vs ++ ws)
listed_append [] ws all more = more
listed_append (v ∷ vs) ws all more = (all.0, listed_append vs ws all.1 more)

listed_filter : (keep : Val → Bool) (vs : List Val) → AreListed vs → AreListed (filter keep vs)
listed_filter keep [] all = tt
listed_filter keep (v ∷ vs) all =
    elim (keep v) as
    (λ b. AreListed (cond b (v ∷ filter keep vs) (filter keep vs))) [ true ↦ (all.0, listed_filter keep vs all.1) | false ↦ listed_filter keep vs all.1 ]

listed_take : (n : ℕ) (vs : List Val) → AreListed vs → AreListed (take n vs)
listed_take zero vs all = tt
listed_take (suc n) [] all = tt
listed_take (suc n) (v ∷ vs) all = (all.0, listed_take n vs all.1)

listed_drop : (n : ℕ) (vs : List Val) → AreListed vs → AreListed (drop n vs)
listed_drop zero vs all = all
listed_drop (suc n) [] all = tt
listed_drop (suc n) (v ∷ vs) all = listed_drop n vs all.1

listed_nulls : (n : ℕ) → AreListed (replicate n null)
listed_nulls zero = tt
listed_nulls (suc n) = (tt, listed_nulls n)

listed_at : (vs : List Val) (place : ℕ) → AreListed vs → IsLeft (slice_get vs place)
listed_at [] place all = tt
listed_at (v ∷ vs) zero all = all.0
listed_at (v ∷ vs) (suc place) all = listed_at vs place all.1

listed_with_one : (w : Val) (vs : List Val) → IsValue w → AreListed vs → AreListed (with_one w vs)
listed_with_one w vs one all =
    elim (list_any (λ v. same v w) vs) as (λ b. AreListed (cond b vs (vs ++ w ∷ []))) [ true ↦ all | false ↦ AreValues-append vs w all one ]

listed_with_missing : (ws vs : List Val) → AreListed ws → AreListed vs → AreListed (with_missing ws vs)
listed_with_missing [] vs more all = all
listed_with_missing (w ∷ ws) vs more all = listed_with_missing ws (with_one w vs) more.1 (listed_with_one w vs more.0 all)

-- ---- what an edit leaves of a value

whole_is : (z : ℤ) → is_whole z ≡ true → IsWhole z
whole_is z is =
    let both = both_true _ _ is in
    record { low = lt_z_no (subst T (sym both.0) tt); high = lt_z_no (subst T (sym both.1) tt) }

if_whole : (z : ℤ) (b : Bool) → is_whole z ≡ b → (o : Outcome (Option Val)) → o ≡ (if b then Ok (Some (int z)) else Err refusal.NumberRange) → IfOk o IsLeft
if_whole z true is o e = subst (λ (o : Outcome (Option Val)). IfOk o IsLeft) (sym e) (whole_is z is)
if_whole z false is o e = subst (λ (o : Outcome (Option Val)). IfOk o IsLeft) (sym e) tt

number_left : (n : ℤ) (w : Val) → IfOk (to_number n w) IsLeft
number_left n (int m) = if_whole (m +ℤ n) (is_whole (m +ℤ n)) refl (added n m) refl
number_left n w = tt

elements_are : (w : Val) → IsValue w → IfOk (elements w) AreListed
elements_are (list vs) is = listed vs is
elements_are w is = tt

list_edit : (e : Edit) (ws : List Val) → IsEdit e → AreListed ws → AreListed (list_edited e ws)
list_edit (append_all vs) ws one all = listed_append ws vs all one
list_edit (add_missing vs) ws one all = listed_with_missing vs ws one all
list_edit (drop_equal v) ws one all = listed_filter (λ x. not (same x v)) ws all
list_edit (drop_passing t) ws one all = listed_filter (λ x. not (fits t x)) ws all
list_edit drop_last ws one all = listed_take (length ws - 1) ws all
list_edit drop_first ws one all = listed_drop 1 ws all
list_edit e ws one all = all

list_left : (e : Edit) (o : Outcome (List Val)) → IsEdit e → IfOk o AreListed → IfOk (made (λ ws. Some (list (vals_of (list_edited e ws)))) o) IsLeft
list_left e (Ok ws) one all = list_edit e ws one all
list_left e (Err r) one all = tt

edit_left : (e : Edit) (w : Val) → IsEdit e → IsValue w → IfOk (edited e w) IsLeft
edit_left (put_value v) w one is = one
edit_left take_out w one is = tt
edit_left (add n) w one is = number_left n w
edit_left (keep_least v) w one is = elim (is_lt (compare v w)) as (λ b. IsValue (cond b v w)) [ true ↦ one | false ↦ is ]
edit_left (keep_greatest v) w one is = elim (is_gt (compare v w)) as (λ b. IsValue (cond b v w)) [ true ↦ one | false ↦ is ]
edit_left e w one is = list_left e (elements w) one (elements_are w is)

anew_left : (e : Edit) → IsEdit e → IsLeft (made_anew e)
anew_left (put_value v) one = one
anew_left (add n) one = one
anew_left (keep_least v) one = one
anew_left (keep_greatest v) one = one
anew_left (append_all vs) one = one
anew_left (add_missing vs) one = listed_with_missing vs [] one tt
anew_left e one = tt

either : {X : Type 0} (P : X → Type 0) (b : Bool) (r o : Outcome X) → IfOk r P → IfOk o P → IfOk (if b then r else o) P
either P true r o f g = f
either P false r o f g = g

blocked_is : {X : Type 0} (P : X → Type 0) (e : Edit) (x : X) → P x → IfOk (blocked e x) P
blocked_is P e x is = either P (makes e) (Err refusal.PathBlocked) (Ok x) tt is

-- ---- along a path

fields_of_object : (fs : Fields) → IsValue (object fs) → IsDocument (entries_of fs)
fields_of_object fs is = record { names = is.0; values = subst HaveValues (sym (fields_of-entries_of fs)) is.1 }

no_entries : IsDocument []
no_entries = record { names = sorted-nil text_cmp; values = tt }

with_field_is : (fields : Entries) (name : List ℕ) (left : Option Val) → IsDocument fields → IsLeft left → IsDocument (with_field fields name left)
with_field_is fields name None d is =
    record { names = sorted-remove name_order fields name d.names; values = HaveValues-remove (is_at (text_cmp name)) fields d.values }
with_field_is fields name (Some v) d is = record { names = sorted-put name_order fields name v d.names; values = HaveValues-put fields name v d.values is }

field_left : (fields : Entries) (name : List ℕ) (o : Outcome (Option Val)) → IsDocument fields → IfOk o IsLeft →
    IfOk (made (λ left. with_field fields name left) o) IsDocument
field_left fields name (Ok left) d is = with_field_is fields name left d is
field_left fields name (Err r) d is = tt

field_is : (change : Option Val → Outcome (Option Val)) (fields : Entries) (name : List ℕ) → Keeps change → IsDocument fields →
    IfOk (field_changed change fields name) IsDocument
field_is change fields name keeps d =
    field_left fields name (change (get fields name)) d (keeps (get fields name) (HaveValues-lookup (is_at (text_cmp name)) fields d.values))

or_null : (left : Option Val) → IsLeft left → IsValue (unwrap_or left null)
or_null None is = tt
or_null (Some v) is = is

behind : (vs : List Val) (place : ℕ) (left : Option Val) → AreListed vs → IsLeft left → AreListed (put_behind vs place left)
behind vs place None all is = all
behind vs place (Some v) all is = AreValues-append (vs ++ replicate (place - length vs) null) v
    (listed_append vs (replicate (place - length vs) null) all (listed_nulls (place - length vs))) is

with_element_is : (vs : List Val) (place : ℕ) (left : Option Val) → AreListed vs → IsLeft left → AreListed (with_element vs place left)
with_element_is vs place left all is =
    elim (nat_lt place (length vs)) as (λ b. AreListed (cond b (slice_set vs place (unwrap_or left null)) (put_behind vs place left))) [
      | true ↦ AreValues-set vs place (unwrap_or left null) all (or_null left is)
      | false ↦ behind vs place left all is
    ]

element_left : (vs : List Val) (place : ℕ) (o : Outcome (Option Val)) → AreListed vs → IfOk o IsLeft →
    IfOk (made (λ left. with_element vs place left) o) AreListed
element_left vs place (Ok left) all is = with_element_is vs place left all is
element_left vs place (Err r) all is = tt

element_is : (e : Edit) (change : Option Val → Outcome (Option Val)) (vs : List Val) (o : Option ℕ) → Keeps change → AreListed vs →
    IfOk (element_changed e change vs o) AreListed
element_is e change vs None keeps all = blocked_is AreListed e vs all
element_is e change vs (Some place) keeps all =
    elim (nat_le place max_place) as (λ b. IfOk (cond b (made (λ left. with_element vs place left) (change (slice_get vs place))) (blocked e vs)) AreListed) [
      | true ↦ element_left vs place (change (slice_get vs place)) all (keeps (slice_get vs place) (listed_at vs place all))
      | false ↦ blocked_is AreListed e vs all
    ]

object_left : (o : Outcome Entries) → IfOk o IsDocument → IfOk (made (λ fields. Some (object (fields_of fields))) o) IsLeft
object_left (Ok fields) d = IsValue-object fields d
object_left (Err r) d = tt

listed_left : (o : Outcome (List Val)) → IfOk o AreListed → IfOk (made (λ ws. Some (list (vals_of ws))) o) IsLeft
listed_left (Ok ws) all = all
listed_left (Err r) all = tt

stays_left : (o : Outcome Val) → IfOk o IsValue → IfOk (made Some o) IsLeft
stays_left (Ok v) is = is
stays_left (Err r) is = tt

changed_left : (e : Edit) (path : List (List ℕ)) (there : Option Val) → IsEdit e → IsLeft there → IfOk (changed_at e path there) IsLeft
changed_left e [] None one is = anew_left e one
changed_left e [] (Some w) one is = edit_left e w one is
changed_left e (part ∷ rest) None one is =
    let change = λ (there : Option Val). changed_at e rest there in
    elim (makes e) as (λ (b : Bool). IfOk (cond b (made (λ fields. Some (object (fields_of fields))) (field_changed change [] part)) (Ok None)) IsLeft) [
      | true ↦ object_left (field_changed change [] part) (field_is change [] part (λ there g. changed_left e rest there one g) no_entries)
      | false ↦ tt
    ]
changed_left e (part ∷ rest) (Some (object fs)) one is =
    let change = λ (there : Option Val). changed_at e rest there in
    object_left (field_changed change (entries_of fs) part)
    (field_is change (entries_of fs) part (λ there g. changed_left e rest there one g) (fields_of_object fs is))
changed_left e (part ∷ rest) (Some (list vs)) one is =
    let change = λ (there : Option Val). changed_at e rest there in
    listed_left (element_changed e change (list_of vs) (position_of part))
    (element_is e change (list_of vs) (position_of part) (λ there g. changed_left e rest there one g) (listed vs is))
changed_left e (part ∷ rest) (Some v) one is = stays_left (blocked e v) (blocked_is IsValue e v is)

-- ---- documents

document_is : (e : Edit) (path : List (List ℕ)) (doc : Entries) → IsEdit e → IsDocument doc → IfOk (document_changed e path doc) IsDocument
document_is e [] doc one d = d
document_is e (part ∷ rest) doc one d = field_is (λ there. changed_at e rest there) doc part (λ there g. changed_left e rest there one g) d

all_is : (cs : List Change) (o : Outcome Entries) → AreEdits cs → IfOk o IsDocument → IfOk (all_made cs o) IsDocument
all_is [] o all d = d
all_is (c ∷ cs) (Err r) all d = tt
all_is (c ∷ cs) (Ok doc) all d = all_is cs (document_changed c.edit c.path doc) all.1 (document_is c.edit c.path doc all.0 d)

replacement_is : (fields : Entries) (id : List ℕ) (there : Option Val) → IsDocument fields → IfOk (replacement fields id there) IsDocument
replacement_is fields id None d = d
replacement_is fields id (Some v) d = either IsDocument (same v (text id)) (Ok (remove fields (codes "_id"))) (Err refusal.IdChange)
    (with_field_is fields (codes "_id") None d tt) tt

-- what a modifier of values makes of a document of values is one
pub modified_document : (m : Modification) (id : List ℕ) (doc : Entries) → IsModification m → IsDocument doc → IfOk (modified m id doc) IsDocument
modified_document (replaced_by fields) id doc is d = replacement_is fields id (get fields (codes "_id")) is
modified_document (changed_by cs) id doc is d =
    either IsDocument (conflicts (paths_of cs)) (Err refusal.Conflict) (if list_any changes_id cs then Err refusal.IdChange else all_made cs (Ok doc)) tt
    (either IsDocument (list_any changes_id cs) (Err refusal.IdChange) (all_made cs (Ok doc)) tt (all_is cs (Ok doc) is d))

-- ---- what is read

listed_read : (v : Val) → IsValue v → IfOk (list_reading v) AreListed
listed_read (list vs) is = listed vs is
listed_read v is = tt

each_read : (fs : Fields) → HaveValues fs → IfOk (each_reading fs) AreListed
each_read (field n v no_fields) all = elim (bytes_eq n (codes "$each")) as
    (λ (b : Bool). IfOk (cond b (list_reading v) (Err fault.BadOperand)) AreListed) [ true ↦ listed_read v all.0 | false ↦ tt ]
each_read fs all = tt

values_read : (v : Val) → IsValue v → IfOk (values_reading v) AreListed
values_read (object fs) is = elim (has_operator fs) as
    (λ (b : Bool). IfOk (cond b (each_reading fs) (Ok (object fs ∷ []))) AreListed) [ true ↦ each_read fs is.1 | false ↦ (is, tt) ]
values_read v is = (is, tt)

appended : (r : Reading (List Val)) → IfOk r AreListed → IfOk (made append_all r) IsEdit
appended (Ok vs) all = all
appended (Err e) all = tt

missing : (r : Reading (List Val)) → IfOk r AreListed → IfOk (made add_missing r) IsEdit
missing (Ok vs) all = all
missing (Err e) all = tt

increment_read : (v : Val) → IsValue v → IfOk (increment_reading v) IsEdit
increment_read (int z) is = is
increment_read v is = tt

passing : (r : Reading ElementTest) → IfOk (made drop_passing r) IsEdit
passing (Ok t) = tt
passing (Err e) = tt

pull_read : (v : Val) → IfOk (pull_reading v) IsEdit
pull_read (object fs) = passing (from_test (test_reading (object fs)))
pull_read v = tt

pop_read : (v : Val) → IfOk (pop_reading v) IsEdit
pop_read (int (pos (suc zero))) = tt
pop_read (int (negsuc zero)) = tt
pop_read v = tt

change_read : (path : Reading (List (List ℕ))) (r : Reading Edit) → IfOk r IsEdit → IfOk (with_both change_of path r) IsChange
change_read (Err e) r one = tt
change_read (Ok path) (Err e) one = tt
change_read (Ok path) (Ok edit) one = one

more_read : (c : Reading Change) (r : Reading (List Change)) → IfOk c IsChange → IfOk r AreEdits → IfOk (with_both (λ c cs. c ∷ cs) c r) AreEdits
more_read (Err e) r one all = tt
more_read (Ok c) (Err e) one all = tt
more_read (Ok c) (Ok cs) one all = (one, all)

-- the paths of an operator whose operands are read as edits of values
paths_read : (f : Fields → Reading (List Change)) (edit : Val → Reading Edit) → f no_fields ≡ Ok [] →
    ((written : List ℕ) (v : Val) (fs : Fields) →
    f (field written v fs) ≡ with_both (λ c cs. c ∷ cs) (with_both change_of (plain_path (path_of written)) (edit v)) (f fs)) →
    ((v : Val) → IsValue v → IfOk (edit v) IsEdit) → (fs : Fields) → HaveValues fs → IfOk (f fs) AreEdits
paths_read f edit none more fine no_fields all = subst (λ (r : Reading (List Change)). IfOk r AreEdits) (sym none) tt
paths_read f edit none more fine (field written v fs) all =
    subst (λ (r : Reading (List Change)). IfOk r AreEdits) (sym (more written v fs))
    (more_read (with_both change_of (plain_path (path_of written)) (edit v)) (f fs)
    (change_read (plain_path (path_of written)) (edit v) (fine v all.0)) (paths_read f edit none more fine fs all.1))

set_read : (v : Val) → IsValue v → IfOk (operator_reading (operator_named (codes "$set")) v) AreEdits
set_read (object fs) is = paths_read (λ gs. operator_reading (operator_named (codes "$set")) (object gs)) (λ v. Ok (put_value v)) refl
    (λ n v gs. refl) (λ v one. one) fs is.1
set_read v is = tt

unset_read : (v : Val) → IsValue v → IfOk (operator_reading (operator_named (codes "$unset")) v) AreEdits
unset_read (object fs) is = paths_read (λ gs. operator_reading (operator_named (codes "$unset")) (object gs)) (λ v. Ok take_out) refl (λ n v gs. refl)
    (λ v one. tt) fs is.1
unset_read v is = tt

increment_all : (v : Val) → IsValue v → IfOk (operator_reading (operator_named (codes "$inc")) v) AreEdits
increment_all (object fs) is =
    paths_read (λ gs. operator_reading (operator_named (codes "$inc")) (object gs)) increment_reading refl (λ n v gs. refl) increment_read fs is.1
increment_all v is = tt

least_read : (v : Val) → IsValue v → IfOk (operator_reading (operator_named (codes "$min")) v) AreEdits
least_read (object fs) is = paths_read (λ gs. operator_reading (operator_named (codes "$min")) (object gs)) (λ v. Ok (keep_least v)) refl
    (λ n v gs. refl) (λ v one. one) fs is.1
least_read v is = tt

greatest_read : (v : Val) → IsValue v → IfOk (operator_reading (operator_named (codes "$max")) v) AreEdits
greatest_read (object fs) is = paths_read (λ gs. operator_reading (operator_named (codes "$max")) (object gs)) (λ v. Ok (keep_greatest v)) refl
    (λ n v gs. refl) (λ v one. one) fs is.1
greatest_read v is = tt

push_read : (v : Val) → IsValue v → IfOk (operator_reading (operator_named (codes "$push")) v) AreEdits
push_read (object fs) is =
    paths_read (λ gs. operator_reading (operator_named (codes "$push")) (object gs)) (λ v. made append_all (values_reading v)) refl (λ n v gs. refl)
    (λ v one. appended (values_reading v) (values_read v one)) fs is.1
push_read v is = tt

add_read : (v : Val) → IsValue v → IfOk (operator_reading (operator_named (codes "$addToSet")) v) AreEdits
add_read (object fs) is =
    paths_read (λ gs. operator_reading (operator_named (codes "$addToSet")) (object gs)) (λ v. made add_missing (values_reading v)) refl
    (λ n v gs. refl) (λ v one. missing (values_reading v) (values_read v one)) fs is.1
add_read v is = tt

pull_all : (v : Val) → IsValue v → IfOk (operator_reading (operator_named (codes "$pull")) v) AreEdits
pull_all (object fs) is = paths_read (λ gs. operator_reading (operator_named (codes "$pull")) (object gs)) pull_reading refl (λ n v gs. refl)
    (λ v one. pull_read v) fs is.1
pull_all v is = tt

pop_all : (v : Val) → IsValue v → IfOk (operator_reading (operator_named (codes "$pop")) v) AreEdits
pop_all (object fs) is =
    paths_read (λ gs. operator_reading (operator_named (codes "$pop")) (object gs)) pop_reading refl (λ n v gs. refl) (λ v one. pop_read v) fs is.1
pop_all v is = tt

one_of : {O : Type 0} (b : Bool) (x y : O) (P : O → Type 0) → P x → P y → P (if b then x else y)
one_of true x y P f g = f
one_of false x y P f g = g

-- an operator of any name
operator_read : (n : List ℕ) (v : Val) → IsValue v → IfOk (operator_reading (operator_named n) v) AreEdits
operator_read n v is =
    let pops = if bytes_eq n (codes "$pop") then operator_named (codes "$pop") else operator_named [] in
    let pulls = if bytes_eq n (codes "$pull") then operator_named (codes "$pull") else pops in
    let adds = if bytes_eq n (codes "$addToSet") then operator_named (codes "$addToSet") else pulls in
    let pushes = if bytes_eq n (codes "$push") then operator_named (codes "$push") else adds in
    let greatest = if bytes_eq n (codes "$max") then operator_named (codes "$max") else pushes in
    let least = if bytes_eq n (codes "$min") then operator_named (codes "$min") else greatest in
    let increments = if bytes_eq n (codes "$inc") then operator_named (codes "$inc") else least in
    let unsets = if bytes_eq n (codes "$unset") then operator_named (codes "$unset") else increments in
    one_of (bytes_eq n (codes "$set")) (operator_named (codes "$set")) unsets (λ o. IfOk (operator_reading o v) AreEdits) (set_read v is)
    (one_of (bytes_eq n (codes "$unset")) (operator_named (codes "$unset")) increments (λ o. IfOk (operator_reading o v) AreEdits) (unset_read v is)
    (one_of (bytes_eq n (codes "$inc")) (operator_named (codes "$inc")) least (λ o. IfOk (operator_reading o v) AreEdits) (increment_all v is)
    (one_of (bytes_eq n (codes "$min")) (operator_named (codes "$min")) greatest (λ o. IfOk (operator_reading o v) AreEdits) (least_read v is)
    (one_of (bytes_eq n (codes "$max")) (operator_named (codes "$max")) pushes (λ o. IfOk (operator_reading o v) AreEdits) (greatest_read v is)
    (one_of (bytes_eq n (codes "$push")) (operator_named (codes "$push")) adds (λ o. IfOk (operator_reading o v) AreEdits) (push_read v is)
    (one_of (bytes_eq n (codes "$addToSet")) (operator_named (codes "$addToSet")) pulls (λ o. IfOk (operator_reading o v) AreEdits) (add_read v is)
    (one_of (bytes_eq n (codes "$pull")) (operator_named (codes "$pull")) pops (λ o. IfOk (operator_reading o v) AreEdits) (pull_all v is)
    (one_of (bytes_eq n (codes "$pop")) (operator_named (codes "$pop")) (operator_named []) (λ o. IfOk (operator_reading o v) AreEdits)
    (pop_all v is) tt))))))))

edits_append : (cs ds : List Change) → AreEdits cs → AreEdits ds → AreEdits (cs ++ ds)
edits_append [] ds all more = more
edits_append (c ∷ cs) ds all more = (all.0, edits_append cs ds all.1 more)

joined_read : (r s : Reading (List Change)) → IfOk r AreEdits → IfOk s AreEdits → IfOk (with_both (λ a b. a ++ b) r s) AreEdits
joined_read (Err e) s all more = tt
joined_read (Ok cs) (Err e) all more = tt
joined_read (Ok cs) (Ok ds) all more = edits_append cs ds all more

changes_read : (fs : Fields) → HaveValues fs → IfOk (changes_reading fs) AreEdits
changes_read no_fields all = tt
changes_read (field n v fs) all = joined_read (operator_reading (operator_named n) v) (changes_reading fs) (operator_read n v all.0) (changes_read fs all.1)

operators_read : (r : Reading (List Change)) → IfOk r AreEdits → IfOk (made changed_by r) IsModification
operators_read (Ok cs) all = all
operators_read (Err e) all = tt

either_read : (b : Bool) (r s : Reading Modification) → IfOk r IsModification → IfOk s IsModification → IfOk (if b then r else s) IsModification
either_read true r s f g = f
either_read false r s f g = g

-- a modifier that is read from a value puts values into a document
pub read_modification : (v : Val) → IsValue v → IfOk (reading v) IsModification
read_modification (object fs) is =
    either_read (not (has_operator fs)) (Ok (replaced_by (entries_of fs)))
    (if has_plain_name fs then Err fault.BadOperand else made changed_by (changes_reading fs)) (fields_of_object fs is)
    (either_read (has_plain_name fs) (Err fault.BadOperand)
    (made changed_by (changes_reading fs)) tt (operators_read (changes_reading fs) (changes_read fs is.1)))
read_modification v is = tt
