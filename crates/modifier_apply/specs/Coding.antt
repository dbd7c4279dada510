-- A code of modifiers, by which contracts tell them apart.
use Rattle.std.specs.Prelude.{◌≡◌, ℕ, zero, suc, List, refl}
use Rattle.std.proofs.Common.{ap, ◌⊎◌, inl, inr}
use Rattle.std.specs.Coded.{Coded, code_by, coded_list, coded_ℕ, coded×, coded⊎}
use Rattle.value_model.specs.Val.{Val, Entries}
use Rattle.value_model.specs.Coding.{to, from, back, whole_to, whole_from, whole_back, entries_code}
use Rattle.selector_match.specs.Coding.{list_to, list_from, list_back, test_to, test_from, test_back}
use Rattle.modifier_apply.specs.Change.{Edit, put_value, take_out, add, keep_least, keep_greatest, append_all, add_missing, drop_equal, drop_passing}
use Rattle.modifier_apply.specs.Change.{drop_last, drop_first, Change, Modification, replaced_by, changed_by}
use base.Stored.{Gv, gnil, gnum, gcons}
use denote.Struct.Codes.{itself}

-- the edits with one value, by number
abbrev pub with_value : ℕ → Val → Edit
with_value zero v = put_value v
with_value (suc zero) v = keep_least v
with_value (suc (suc zero)) v = keep_greatest v
with_value (suc (suc (suc _))) v = drop_equal v

-- the edits with none, by number
abbrev pub alone : ℕ → Edit
alone zero = take_out
alone (suc zero) = drop_last
alone (suc (suc _)) = drop_first

abbrev pub edit_to : Edit → Gv
edit_to take_out = gnum 0
edit_to drop_last = gnum 1
edit_to drop_first = gnum 2
edit_to (put_value v) = gcons (gnum 0) (to v)
edit_to (keep_least v) = gcons (gnum 1) (to v)
edit_to (keep_greatest v) = gcons (gnum 2) (to v)
edit_to (drop_equal v) = gcons (gnum 3) (to v)
edit_to (add n) = gcons gnil (whole_to n)
edit_to (append_all vs) = gcons (gcons gnil gnil) (list_to vs)
edit_to (add_missing vs) = gcons (gcons (gnum 0) gnil) (list_to vs)
edit_to (drop_passing t) = gcons (gcons (gcons gnil gnil) gnil) (test_to t)

abbrev pub edit_from : Gv → Edit
edit_from gnil = take_out
edit_from (gnum n) = alone n
edit_from (gcons gnil rest) = add (whole_from rest)
edit_from (gcons (gnum n) rest) = with_value n (from rest)
edit_from (gcons (gcons gnil b) rest) = append_all (list_from rest)
edit_from (gcons (gcons (gnum _) b) rest) = add_missing (list_from rest)
edit_from (gcons (gcons (gcons a b) c) rest) = drop_passing (test_from rest)

pub edit_back : (e : Edit) → edit_from (edit_to e) ≡ e
edit_back take_out = refl
edit_back drop_last = refl
edit_back drop_first = refl
edit_back (put_value v) = ap put_value (back v)
edit_back (keep_least v) = ap keep_least (back v)
edit_back (keep_greatest v) = ap keep_greatest (back v)
edit_back (drop_equal v) = ap drop_equal (back v)
edit_back (add n) = ap add (whole_back n)
edit_back (append_all vs) = ap append_all (list_back vs)
edit_back (add_missing vs) = ap add_missing (list_back vs)
edit_back (drop_passing t) = ap drop_passing (test_back t)

abbrev pub edit_code : Coded Edit
edit_code = code_by Gv itself edit_to edit_from edit_back

abbrev pub change_to : Change → List (List ℕ) × Edit
change_to c = (c.path, c.edit)

abbrev pub change_from : List (List ℕ) × Edit → Change
change_from p = record { path = p.0; edit = p.1 }

pub change_back : (c : Change) → change_from (change_to c) ≡ c
change_back c = refl

abbrev pub change_code : Coded Change
change_code = code_by (List (List ℕ) × Edit) (coded× (coded_list (coded_list coded_ℕ)) edit_code) change_to change_from change_back

abbrev pub modification_to : Modification → Entries ⊎ List Change
modification_to (replaced_by fields) = inl fields
modification_to (changed_by cs) = inr cs

abbrev pub modification_from : Entries ⊎ List Change → Modification
modification_from (inl fields) = replaced_by fields
modification_from (inr cs) = changed_by cs

pub modification_back : (m : Modification) → modification_from (modification_to m) ≡ m
modification_back (replaced_by fields) = refl
modification_back (changed_by cs) = refl

abbrev pub modification_code : Coded Modification
modification_code = code_by (Entries ⊎ List Change) (coded⊎ entries_code (coded_list change_code)) modification_to modification_from modification_back
