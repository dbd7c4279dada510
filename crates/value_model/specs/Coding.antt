-- A code of values, by which contracts tell them apart.
use Rattle.std.specs.Prelude.{◌≡◌, ℕ, zero, suc, ℤ, pos, negsuc, Bool, true, false, List, [], ◌∷◌, refl}
use Rattle.std.proofs.Common.{ap, ◌∙◌}
use Rattle.std.specs.Coded.{Coded, code_by, coded_ℕ, coded_list, coded×}
use Rattle.value_model.specs.Val.{Val, null, boolean, int, text, date, bytes, list, object, user, Vals, no_vals, val, Fields, no_fields, field, Entries}
use base.Stored.{Gv, gnil, gnum, gcons, num}
use denote.Struct.Codes.{itself}

abbrev pub numbers_to : List ℕ → Gv
numbers_to [] = gnil
numbers_to (n ∷ ns) = gcons (gnum n) (numbers_to ns)

abbrev pub numbers_from : Gv → List ℕ
numbers_from gnil = []
numbers_from (gnum n) = []
numbers_from (gcons n ns) = num n ∷ numbers_from ns

abbrev pub whole_to : ℤ → Gv
whole_to (pos n) = gcons (gnum 0) (gnum n)
whole_to (negsuc n) = gcons (gnum 1) (gnum n)

abbrev pub whole_by : ℕ → ℕ → ℤ
whole_by zero n = pos n
whole_by (suc _) n = negsuc n

abbrev pub whole_from : Gv → ℤ
whole_from gnil = pos 0
whole_from (gnum n) = pos 0
whole_from (gcons sign n) = whole_by (num sign) (num n)

abbrev pub boolean_to : Bool → Gv
boolean_to false = gnum 0
boolean_to true = gnum 1

abbrev pub boolean_by : ℕ → Bool
boolean_by zero = false
boolean_by (suc _) = true

abbrev mutual
  pub to : Val → Gv
  to null = gnil
  to (boolean b) = gcons (gnum 1) (boolean_to b)
  to (int z) = gcons (gnum 2) (whole_to z)
  to (text s) = gcons (gnum 3) (numbers_to s)
  to (date z) = gcons (gnum 4) (whole_to z)
  to (bytes s) = gcons (gnum 5) (numbers_to s)
  to (list vs) = gcons (gnum 6) (vals_to vs)
  to (object fs) = gcons (gnum 7) (fields_to fs)
  to (user name v) = gcons (gnum 8) (gcons (numbers_to name) (to v))

  pub vals_to : Vals → Gv
  vals_to no_vals = gnil
  vals_to (val v vs) = gcons (to v) (vals_to vs)

  pub fields_to : Fields → Gv
  fields_to no_fields = gnil
  fields_to (field name v fs) = gcons (gcons (numbers_to name) (to v)) (fields_to fs)

abbrev mutual
  pub from : Gv → Val
  from gnil = null
  from (gnum n) = null
  from (gcons gnil rest) = null
  from (gcons (gnum zero) rest) = null
  from (gcons (gnum (suc zero)) rest) = boolean (boolean_by (num rest))
  from (gcons (gnum (suc (suc zero))) rest) = int (whole_from rest)
  from (gcons (gnum (suc (suc (suc zero)))) rest) = text (numbers_from rest)
  from (gcons (gnum (suc (suc (suc (suc zero))))) rest) = date (whole_from rest)
  from (gcons (gnum (suc (suc (suc (suc (suc zero)))))) rest) = bytes (numbers_from rest)
  from (gcons (gnum (suc (suc (suc (suc (suc (suc zero))))))) rest) = list (vals_from rest)
  from (gcons (gnum (suc (suc (suc (suc (suc (suc (suc zero)))))))) rest) = object (fields_from rest)
  from (gcons (gnum (suc (suc (suc (suc (suc (suc (suc (suc _))))))))) gnil) = null
  from (gcons (gnum (suc (suc (suc (suc (suc (suc (suc (suc _))))))))) (gnum n)) = null
  from (gcons (gnum (suc (suc (suc (suc (suc (suc (suc (suc _))))))))) (gcons name v)) = user (numbers_from name) (from v)
  from (gcons (gcons a b) rest) = null

  pub vals_from : Gv → Vals
  vals_from gnil = no_vals
  vals_from (gnum n) = no_vals
  vals_from (gcons v vs) = val (from v) (vals_from vs)

  pub fields_from : Gv → Fields
  fields_from gnil = no_fields
  fields_from (gnum n) = no_fields
  fields_from (gcons gnil fs) = no_fields
  fields_from (gcons (gnum n) fs) = no_fields
  fields_from (gcons (gcons name v) fs) = field (numbers_from name) (from v) (fields_from fs)

pub numbers_back : (ns : List ℕ) → numbers_from (numbers_to ns) ≡ ns
numbers_back [] = refl
numbers_back (n ∷ ns) = ap (λ rest. n ∷ rest) (numbers_back ns)

pub whole_back : (z : ℤ) → whole_from (whole_to z) ≡ z
whole_back (pos n) = refl
whole_back (negsuc n) = refl

pub boolean_back : (b : Bool) → boolean_by (num (boolean_to b)) ≡ b
boolean_back false = refl
boolean_back true = refl

mutual
  pub back : (v : Val) → from (to v) ≡ v
  back null = refl
  back (boolean b) = ap boolean (boolean_back b)
  back (int z) = ap int (whole_back z)
  back (text s) = ap text (numbers_back s)
  back (date z) = ap date (whole_back z)
  back (bytes s) = ap bytes (numbers_back s)
  back (list vs) = ap list (vals_back vs)
  back (object fs) = ap object (fields_back fs)
  back (user name v) = ap (λ n. user n (from (to v))) (numbers_back name) ∙ ap (λ w. user name w) (back v)

  pub vals_back : (vs : Vals) → vals_from (vals_to vs) ≡ vs
  vals_back no_vals = refl
  vals_back (val v vs) = ap (λ w. val w (vals_from (vals_to vs))) (back v) ∙ ap (λ rest. val v rest) (vals_back vs)

  pub fields_back : (fs : Fields) → fields_from (fields_to fs) ≡ fs
  fields_back no_fields = refl
  fields_back (field name v fs) =
      ap (λ n. field n (from (to v)) (fields_from (fields_to fs))) (numbers_back name)
      ∙ (ap (λ w. field name w (fields_from (fields_to fs))) (back v) ∙ ap (λ rest. field name v rest) (fields_back fs))

abbrev pub val_code : Coded Val
val_code = code_by Gv itself to from back

abbrev pub entries_code : Coded Entries
entries_code = coded_list (coded× (coded_list coded_ℕ) val_code)
