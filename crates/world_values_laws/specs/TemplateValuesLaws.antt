-- Laws: A template of values that is filled with values is one.
use Rattle.std.specs.Prelude.{ℕ, zero, suc, ℤ, pos, negsuc, Bool, true, false, List, [], ◌∷◌, nat_lt, Option, None, Some, codes, ok_or, option_map}
use Rattle.std.specs.Prelude.{IfSome, Ok, Err, IfOk, slice_get, refl, if◌then◌else◌}
use Rattle.std.specs.List.Sorted.{IsStrictlySortedBy}
use Rattle.std.proofs.Common.{ap, sym, subst}
use Rattle.value_model.specs.Val.{Val, int, text, list, object, Vals, no_vals, val, Fields, no_fields, field, vals_of, entries_of}
use Rattle.value_model.specs.Order.{text_cmp}
use Rattle.value_model.specs.Depth.{depth}
use Rattle.value_model.specs.Size.{size, is_name}
use Rattle.value_model.specs.Valid.{IsValue, AreValues, HaveValues, HasRisingNames}
use Rattle.ejson_value.specs.Results.{made, with_both}
use Rattle.program_steps.specs.declared.fault.FillFault.TheVariants as fault
use Rattle.program_steps.specs.Template.{max_depth, max_size, placeholder_named, placeholder_in, Filling, nth, in_place, filling, items_filling}
use Rattle.program_steps.specs.Template.{fields_filling, limited, filled}
use Rattle.world_values_laws.specs.TemplateValues.{IsLike}

listed_at : (vs : List Val) (n : ℕ) → AreValues (vals_of vs) → IfSome (slice_get vs n) IsValue
listed_at [] n all = tt
listed_at (v ∷ vs) zero all = all.0
listed_at (v ∷ vs) (suc n) all = listed_at vs n all.1

parameter_is : (params : List Val) (z : ℤ) → AreValues (vals_of params) → IfSome (nth params z) IsValue
parameter_is params (pos n) all = listed_at params n all
parameter_is params (negsuc n) all = tt

found : (o : Option Val) → IfSome o IsValue → IfOk (ok_or o fault.NoParam) IsValue
found None is = tt
found (Some v) is = is

id_found : (o : Option (List ℕ)) → IfOk (ok_or (option_map text o) fault.NoParam) IsValue
id_found None = tt
id_found (Some id) = tt

one_of : {O : Type 0} (b : Bool) (x y : O) (P : O → Type 0) → P x → P y → P (if b then x else y)
one_of true x y P f g = f
one_of false x y P f g = g

placed : (params : List Val) (ids : List (List ℕ)) (fs : Fields) (r : Filling Val) → AreValues (vals_of params) → IfOk r IsValue →
    IfOk (in_place params ids (placeholder_in fs) r) IsValue
placed params ids (field name (int z) no_fields) r all is =
    let made_one = if is_name name (codes "$made") then placeholder_named (codes "$made") z else placeholder_named [] z in
    one_of (is_name name (codes "$param")) (placeholder_named (codes "$param") z) made_one (λ o. IfOk (in_place params ids o r) IsValue)
    (found (nth params z) (parameter_is params z all))
    (one_of (is_name name (codes "$made")) (placeholder_named (codes "$made") z) (placeholder_named [] z)
    (λ o. IfOk (in_place params ids o r) IsValue) (id_found (nth ids z)) is)
placed params ids fs r all is = is

list_filled : (r : Filling Vals) → IfOk r AreValues → IfOk (made list r) IsValue
list_filled (Ok vs) all = all
list_filled (Err e) all = tt

items_filled : (r : Filling Val) (s : Filling Vals) → IfOk r IsValue → IfOk s AreValues → IfOk (with_both val r s) AreValues
items_filled (Err e) s is all = tt
items_filled (Ok v) (Err e) is all = tt
items_filled (Ok v) (Ok vs) is all = (is, all)

fields_filled : (name : List ℕ) (v : Val) (fs : Fields) (r : Filling Val) (s : Filling Fields) → IfOk r IsValue → IfOk s (IsLike fs) →
    IfOk (with_both (λ w ws. field name w ws) r s) (IsLike (field name v fs))
fields_filled name v fs (Err e) s is all = tt
fields_filled name v fs (Ok w) (Err e) is all = tt
fields_filled name v fs (Ok w) (Ok ws) is all = ((is, all.0), ap (λ names. name ∷ names) all.1)

object_filled : (fs : Fields) (r : Filling Fields) → HasRisingNames (entries_of fs) → IfOk r (IsLike fs) → IfOk (made object r) IsValue
object_filled fs (Ok gs) rise all = (subst (IsStrictlySortedBy text_cmp) (sym all.1) rise, all.0)
object_filled fs (Err e) rise all = tt

mutual
  filling_is : (params : List Val) (ids : List (List ℕ)) (v : Val) → AreValues (vals_of params) → IsValue v → IfOk (filling params ids v) IsValue
  filling_is params ids (list vs) all is = list_filled (items_filling params ids vs) (items_are params ids vs all is)
  filling_is params ids (object fs) all is =
      placed params ids fs (made object (fields_filling params ids fs)) all
      (object_filled fs (fields_filling params ids fs) is.0 (fields_are params ids fs all is.1))
  filling_is params ids v all is = is

  items_are : (params : List Val) (ids : List (List ℕ)) (vs : Vals) → AreValues (vals_of params) → AreValues vs → IfOk (items_filling params ids vs) AreValues
  items_are params ids no_vals all is = tt
  items_are params ids (val v vs) all is =
      items_filled (filling params ids v) (items_filling params ids vs) (filling_is params ids v all is.0) (items_are params ids vs all is.1)

  fields_are : (params : List Val) (ids : List (List ℕ)) (fs : Fields) → AreValues (vals_of params) → HaveValues fs →
      IfOk (fields_filling params ids fs) (IsLike fs)
  fields_are params ids no_fields all is = (tt, refl)
  fields_are params ids (field name v fs) all is =
      fields_filled name v fs (filling params ids v) (fields_filling params ids fs) (filling_is params ids v all is.0) (fields_are params ids fs all is.1)

either : (b : Bool) (r s : Filling Val) → IfOk r IsValue → IfOk s IsValue → IfOk (if b then r else s) IsValue
either true r s f g = f
either false r s f g = g

limited_is : (r : Filling Val) → IfOk r IsValue → IfOk (limited r) IsValue
limited_is (Err e) is = tt
limited_is (Ok v) is =
    either (nat_lt max_depth (depth v)) (Err fault.TooDeep) (if nat_lt max_size (size v) then Err fault.TooLarge else Ok v) tt
    (either (nat_lt max_size (size v)) (Err fault.TooLarge) (Ok v) tt is)

-- what a template of values gives, filled with parameters of values
pub filled_value : (params : List Val) (ids : List (List ℕ)) (template : Val) → AreValues (vals_of params) → IsValue template →
    IfOk (filled params ids template) IsValue
filled_value params ids template all is = limited_is (filling params ids template) (filling_is params ids template all is)
