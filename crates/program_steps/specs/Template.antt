-- Templates: values in which placeholders stand for what is known only later.
use Rattle.std.specs.Prelude.{◌≡◌, ◌≤◌, ℕ, ℤ, pos, negsuc, List, codes, Option, None, Some, ok_or, Result, Ok, Err, slice_get, option_map}
use Rattle.std.specs.Prelude.{option_and_then, nat_lt, if◌then◌else◌, ◌||◌}
use Rattle.value_model.specs.Val.{Val, int, text, list, object, Vals, no_vals, val, Fields, no_fields, field}
use Rattle.value_model.specs.Depth.{depth}
use Rattle.value_model.specs.Size.{size, is_name}
use Rattle.ejson_value.specs.Results.{made, with_both}
use Rattle.program_steps.specs.declared.fault.FillFault.{FillFault}
use Rattle.program_steps.specs.declared.fault.FillFault.TheVariants as fault
use Rattle.program_steps.specs.declared.template.Placeholder.{Placeholder}
use Rattle.program_steps.specs.declared.template.Placeholder.TheVariants as placeholder

-- the most levels and bytes of a filled template
abbrev pub max_depth : ℕ
max_depth = 32

abbrev pub max_size : ℕ
max_size = 1048576

abbrev pub placeholder_named : List ℕ → ℤ → Option Placeholder
placeholder_named name z =
    if is_name name (codes "$param") then Some (placeholder.Parameter z) else (if is_name name (codes "$made") then Some (placeholder.MadeId z) else None)

-- An object is a placeholder where its only field is `$param` or `$made` with a number.
abbrev pub placeholder_in : Fields → Option Placeholder
placeholder_in (field name (int z) no_fields) = placeholder_named name z
placeholder_in _ = None

abbrev pub Filling : Type 0 → Type 0
Filling X = Result X FillFault

-- the n-th of a list, from 0
abbrev pub nth : {X : Type 0} → List X → ℤ → Option X
nth xs (pos n) = slice_get xs n
nth xs (negsuc n) = None

-- what stands for an object: the n-th parameter, the n-th id that was made, or the object with its fields filled
abbrev pub in_place : List Val → List (List ℕ) → Option Placeholder → Filling Val → Filling Val
in_place params ids None filled = filled
in_place params ids (Some (placeholder.Parameter z)) filled = ok_or (nth params z) fault.NoParam
in_place params ids (Some (placeholder.MadeId z)) filled = ok_or (option_map text (nth ids z)) fault.NoParam

-- What is put for a placeholder isn't filled again.
abbrev mutual
  pub filling : List Val → List (List ℕ) → Val → Filling Val
  filling params ids (list vs) = made list (items_filling params ids vs)
  filling params ids (object fs) = in_place params ids (placeholder_in fs) (made object (fields_filling params ids fs))
  filling params ids v = Ok v

  pub items_filling : List Val → List (List ℕ) → Vals → Filling Vals
  items_filling params ids no_vals = Ok no_vals
  items_filling params ids (val v vs) = with_both val (filling params ids v) (items_filling params ids vs)

  pub fields_filling : List Val → List (List ℕ) → Fields → Filling Fields
  fields_filling params ids no_fields = Ok no_fields
  fields_filling params ids (field name v fs) = with_both (λ w ws. field name w ws) (filling params ids v) (fields_filling params ids fs)

-- The limits are those of the whole value.
abbrev pub within_limits : Val → Filling Val
within_limits v = if nat_lt max_depth (depth v) then Err fault.TooDeep else (if nat_lt max_size (size v) then Err fault.TooLarge else Ok v)

abbrev pub limited : Filling Val → Filling Val
limited (Ok v) = within_limits v
limited (Err e) = Err e

-- a template filled with parameters and with ids that were made
abbrev pub filled : List Val → List (List ℕ) → Val → Filling Val
filled params ids template = limited (filling params ids template)

-- the most bytes of a short value
abbrev pub max_short : ℕ
max_short = 8192

-- the value, where it holds no others and is short
abbrev pub if_short : Val → Option Val
if_short v = if nat_lt 0 (depth v) || nat_lt max_short (size v) then None else Some v

-- the parameter that stands for a placeholder, where it is short
abbrev pub short_in_place : List Val → Option Placeholder → Option Val
short_in_place params (Some (placeholder.Parameter z)) = option_and_then if_short (nth params z)
short_in_place params _ = None

-- What a template is filled to without a look at what it holds: a short value that holds no others, or a placeholder of a
-- short parameter.
abbrev pub filled_short : List Val → Val → Option Val
filled_short params (list vs) = None
filled_short params (object fs) = short_in_place params (placeholder_in fs)
filled_short params v = if_short v

-- a short value that holds no others; and a template that is filled to one, whatever ids were made
pub record IsShort (v : Val) : Type 0 where
  pub flat : depth v ≡ 0
  pub short : size v ≤ max_short

pub record FillsShort (params : List Val) (template v : Val) : Type 0 where
  pub fills : (ids : List (List ℕ)) → filling params ids template ≡ Ok v
  pub value : IsShort v

-- The call answers as the filling says, or want of memory.
abbrev pub Gives : {T X : Type 0} → (T → X) → Result T FillFault → Filling X → Type 0
Gives f (Ok t) r = r ≡ Ok (f t)
Gives f (Err fault.Memory) r = Unit {0}
Gives f (Err e) r = r ≡ Err e
