-- Objects of values, in their two forms.
use Rattle.std.proofs.Common.{◌≡◌, suc, length, [], ◌∷◌, refl, ap}
use Rattle.value_model.specs.Val.{Entries, fields_of}
use Rattle.value_model.specs.Size.{names_of}

pub length-names_of : (es : Entries) → length (names_of (fields_of es)) ≡ length es
length-names_of [] = refl
length-names_of (e ∷ es) = ap suc (length-names_of es)
