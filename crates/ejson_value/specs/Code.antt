-- A code of values as the program holds them, by which contracts tell them apart.
use Rattle.std.specs.Prelude.{◌≡◌, ℕ, List, refl}
use Rattle.std.specs.Coded.{Coded, code_by, coded_ℕ, coded_list, coded×}
use Rattle.std.proofs.Common.{ap}
use Rattle.value_model.specs.Val.{Val, null, boolean, int, text, date, bytes, list, object, user, list_of, entries_of}
use Rattle.value_model.specs.ValLaws.{list_of-vals_of, entries_of-fields_of}
use Rattle.value_model.specs.Coding.{val_code}
use Rattle.ejson_value.specs.declared.value.Value.{Value}
use Rattle.ejson_value.specs.declared.value.Value.TheVariants as shape
use Rattle.ejson_value.specs.View.{view}

-- the value that is seen so
abbrev pub held : Val → Value
held null = shape.Null
held (boolean b) = shape.Bool b
held (int z) = shape.Int z
held (text s) = shape.Text s
held (date z) = shape.Date z
held (bytes s) = shape.Bytes s
held (list vs) = shape.List (list_of vs)
held (object fs) = shape.Object (entries_of fs)
held (user name v) = shape.User name v

pub held-view : (v : Value) → held (view v) ≡ v
held-view shape.Null = refl
held-view (shape.Bool b) = refl
held-view (shape.Int z) = refl
held-view (shape.Text s) = refl
held-view (shape.Date z) = refl
held-view (shape.Bytes s) = refl
held-view (shape.List vs) = ap shape.List (list_of-vals_of vs)
held-view (shape.Object es) = ap shape.Object (entries_of-fields_of es)
held-view (shape.User name v) = refl

abbrev pub value_code : Coded Value
value_code = code_by Val val_code view held held-view

-- names with values as the program holds them
abbrev pub Pairs : Type 0
Pairs = List (List ℕ × Value)

abbrev pub pairs_code : Coded Pairs
pairs_code = coded_list (coded× (coded_list coded_ℕ) value_code)
