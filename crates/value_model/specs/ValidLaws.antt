-- What values keep, kept by the edits of lists and documents.
use Rattle.std.specs.List.{remove as remove_item}
use Rattle.std.specs.Prelude.{ℕ, zero, suc, List, [], ◌∷◌, ◌++◌, Bool, true, false, cond, Some, IfSome, slice_set}
use Rattle.std.proofs.Common.{subst, sym}
use Rattle.std.specs.Map.{lookup, remove_entry}
use Rattle.std.specs.declared.cmp.Ordering.TheVariants.{Less, Equal, Greater}
use Rattle.std.specs.Ordering.{match_ordering}
use Rattle.std.specs.BTreeMap.{insert_entry}
use Rattle.value_model.specs.Val.{Val, object, vals_of, fields_of, Entries}
use Rattle.value_model.specs.ValLaws.{entries_of-fields_of}
use Rattle.value_model.specs.Order.{text_cmp}
use Rattle.value_model.specs.Valid.{IsValue, AreValues, HaveValues, HasRisingNames, IsDocument}
use Rattle.value_model.specs.Doc.{put}

pub AreValues-append : (vs : List Val) (v : Val) → AreValues (vals_of vs) → IsValue v → AreValues (vals_of (vs ++ v ∷ []))
AreValues-append [] v all one = (one, tt)
AreValues-append (w ∷ vs) v all one = (all.0, AreValues-append vs v all.1 one)

pub HaveValues-put : (es : Entries) (name : List ℕ) (v : Val) → HaveValues (fields_of es) → IsValue v → HaveValues (fields_of (put es name v))
HaveValues-put [] name v all one = (one, tt)
HaveValues-put (e ∷ es) name v all one =
    elim (text_cmp name e.0)
    as (λ o. HaveValues (fields_of (match_ordering o ((name, v) ∷ e ∷ es) ((e.0, v) ∷ es) (e ∷ insert_entry text_cmp es name v))))
    [ Less ↦ (one, all) | Equal ↦ (one, all.1) | Greater ↦ (all.0, HaveValues-put es name v all.1 one) ]

pub HaveValues-remove : (test : List ℕ → Bool) (es : Entries) → HaveValues (fields_of es) → HaveValues (fields_of (remove_entry test es))
HaveValues-remove test [] all = tt
HaveValues-remove test (e ∷ es) all =
    elim (test e.0) as (λ b. HaveValues (fields_of (cond b es (e ∷ remove_entry test es)))) [ true ↦ all.1 | false ↦ (all.0, HaveValues-remove test es all.1) ]

pub HaveValues-lookup : (test : List ℕ → Bool) (es : Entries) → HaveValues (fields_of es) → IfSome (lookup test es) IsValue
HaveValues-lookup test [] all = tt
HaveValues-lookup test (e ∷ es) all =
    elim (test e.0) as (λ b. IfSome (cond b (Some e.1) (lookup test es)) IsValue) [ true ↦ all.0 | false ↦ HaveValues-lookup test es all.1 ]

-- a document is a value, as an object
pub IsValue-object : (es : Entries) → IsDocument es → IsValue (object (fields_of es))
IsValue-object es d = (subst HasRisingNames (sym (entries_of-fields_of es)) d.names, d.values)

pub IsDocument-object : (es : Entries) → IsValue (object (fields_of es)) → IsDocument es
IsDocument-object es v = record { names = subst HasRisingNames (entries_of-fields_of es) v.0; values = v.1 }

pub AreValues-remove : (vs : List Val) (place : ℕ) → AreValues (vals_of vs) → AreValues (vals_of (remove_item vs place))
AreValues-remove [] zero all = tt
AreValues-remove [] (suc place) all = tt
AreValues-remove (v ∷ vs) zero all = all.1
AreValues-remove (v ∷ vs) (suc place) all = (all.0, AreValues-remove vs place all.1)

pub AreValues-set : (vs : List Val) (place : ℕ) (v : Val) → AreValues (vals_of vs) → IsValue v → AreValues (vals_of (slice_set vs place v))
AreValues-set [] place v all one = tt
AreValues-set (w ∷ vs) zero v all one = (one, all.1)
AreValues-set (w ∷ vs) (suc place) v all one = (all.0, AreValues-set vs place v all.1 one)
