-- Laws of the two forms of a list and of a document.
use Rattle.std.specs.Prelude.{◌≡◌, List, [], ◌∷◌, refl}
use Rattle.std.proofs.Common.{ap}
use Rattle.value_model.specs.Val.{Val, Vals, no_vals, val, Fields, no_fields, field, Entries, vals_of, list_of, fields_of, entries_of}

-- Both forms of a list and of a document say the same.
pub list_of-vals_of : (vs : List Val) → list_of (vals_of vs) ≡ vs
list_of-vals_of [] = refl
list_of-vals_of (v ∷ vs) = ap (λ rest. v ∷ rest) (list_of-vals_of vs)

pub vals_of-list_of : (vs : Vals) → vals_of (list_of vs) ≡ vs
vals_of-list_of no_vals = refl
vals_of-list_of (val v vs) = ap (λ rest. val v rest) (vals_of-list_of vs)

pub entries_of-fields_of : (es : Entries) → entries_of (fields_of es) ≡ es
entries_of-fields_of [] = refl
entries_of-fields_of (e ∷ es) = ap (λ rest. (e.0, e.1) ∷ rest) (entries_of-fields_of es)

pub fields_of-entries_of : (fs : Fields) → fields_of (entries_of fs) ≡ fs
fields_of-entries_of no_fields = refl
fields_of-entries_of (field name v fs) = ap (λ rest. field name v rest) (fields_of-entries_of fs)
