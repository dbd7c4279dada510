-- How a value is read as a modifier (update operators, in MongoDB's documentation). The first fault in reading order is answered, keys by bytes.
use Rattle.std.specs.Prelude.{◌≡◌, ℕ, zero, suc, pos, negsuc, not, codes, bytes_eq, List, [], ◌∷◌, ◌++◌, Option, None, Some, Result, Ok, Err, if◌then◌else◌}
use Rattle.std.specs.List.{list_any}
use Rattle.value_model.specs.Val.{Val, int, list, object, Fields, no_fields, field, list_of, entries_of}
use Rattle.value_model.specs.Branches.{path_of}
use Rattle.ejson_value.specs.Results.{made, with_both}
use Rattle.selector_match.specs.Reading.{begins_with_dollar, has_operator, has_plain_name, test_reading}
use Rattle.selector_match.specs.declared.fault.SelectorFault.{SelectorFault}
use Rattle.selector_match.specs.declared.fault.SelectorFault.TheVariants as selector
use Rattle.modifier_apply.specs.declared.fault.ModifierFault.{ModifierFault}
use Rattle.modifier_apply.specs.declared.fault.ModifierFault.TheVariants as fault
use Rattle.modifier_apply.specs.declared.names.OperatorName.{OperatorName}
use Rattle.modifier_apply.specs.declared.names.OperatorName.TheVariants as name
use Rattle.modifier_apply.specs.Change.{Edit, put_value, take_out, add, keep_least, keep_greatest, append_all, add_missing, drop_equal, drop_passing}
use Rattle.modifier_apply.specs.Change.{drop_last, drop_first, Change, Modification, replaced_by, changed_by}

abbrev pub Reading : Type 0 → Type 0
Reading X = Result X ModifierFault

abbrev pub operator_named : List ℕ → Option OperatorName
operator_named n =
    if bytes_eq n (codes "$set") then Some name.Set else (
    if bytes_eq n (codes "$unset") then Some name.Unset else (
    if bytes_eq n (codes "$inc") then Some name.Increment else (
    if bytes_eq n (codes "$min") then Some name.Min else (
    if bytes_eq n (codes "$max") then Some name.Max else (
    if bytes_eq n (codes "$push") then Some name.Push else (
    if bytes_eq n (codes "$addToSet") then Some name.AddToSet else (
    if bytes_eq n (codes "$pull") then Some name.Pull else (
    if bytes_eq n (codes "$pop") then Some name.Pop else None))))))))

-- a path of which no part begins with `$`
abbrev pub plain_path : Option (List (List ℕ)) → Reading (List (List ℕ))
plain_path None = Err fault.BadOperand
plain_path (Some path) = if list_any (λ part. begins_with_dollar part) path then Err fault.BadOperand else Ok path

abbrev pub list_reading : Val → Reading (List Val)
list_reading (list vs) = Ok (list_of vs)
list_reading v = Err fault.BadOperand

-- `{"$each": list}`, the values of which are added one by one
abbrev pub each_reading : Fields → Reading (List Val)
each_reading (field n v no_fields) = if bytes_eq n (codes "$each") then list_reading v else Err fault.BadOperand
each_reading fs = Err fault.BadOperand

-- the values that `$push` and `$addToSet` add
abbrev pub values_reading : Val → Reading (List Val)
values_reading (object fs) = if has_operator fs then each_reading fs else Ok (object fs ∷ [])
values_reading v = Ok (v ∷ [])

abbrev pub increment_reading : Val → Reading Edit
increment_reading (int z) = Ok (add z)
increment_reading v = Err fault.BadOperand

-- faults of tests are faults of modifiers
abbrev pub from_test : {X : Type 0} → Result X SelectorFault → Reading X
from_test (Ok x) = Ok x
from_test (Err selector.NotObject) = Err fault.NotObject
from_test (Err selector.UnknownOperator) = Err fault.UnknownOperator
from_test (Err selector.BadOperand) = Err fault.BadOperand
from_test (Err selector.Memory) = Err fault.Memory

-- an object is the test of the elements that `$pull` removes, any other value is what they equal
abbrev pub pull_reading : Val → Reading Edit
pull_reading (object fs) = made drop_passing (from_test (test_reading (object fs)))
pull_reading v = Ok (drop_equal v)

-- 1 or -1
abbrev pub pop_reading : Val → Reading Edit
pop_reading (int (pos (suc zero))) = Ok drop_last
pop_reading (int (negsuc zero)) = Ok drop_first
pop_reading v = Err fault.BadOperand

abbrev pub edit_reading : OperatorName → Val → Reading Edit
edit_reading name.Set v = Ok (put_value v)
edit_reading name.Unset v = Ok take_out
edit_reading name.Increment v = increment_reading v
edit_reading name.Min v = Ok (keep_least v)
edit_reading name.Max v = Ok (keep_greatest v)
edit_reading name.Push v = made append_all (values_reading v)
edit_reading name.AddToSet v = made add_missing (values_reading v)
edit_reading name.Pull v = pull_reading v
edit_reading name.Pop v = pop_reading v

abbrev pub change_of : List (List ℕ) → Edit → Change
change_of path edit = record { path = path; edit = edit }

-- a path with its operand
abbrev pub change_reading : OperatorName → List ℕ → Val → Reading Change
change_reading n written v = with_both change_of (plain_path (path_of written)) (edit_reading n v)

-- the paths of one operator, each with its operand
abbrev pub paths_reading : OperatorName → Fields → Reading (List Change)
paths_reading n no_fields = Ok []
paths_reading n (field written v fs) = with_both (λ c cs. c ∷ cs) (change_reading n written v) (paths_reading n fs)

abbrev pub operand_reading : OperatorName → Val → Reading (List Change)
operand_reading n (object fs) = paths_reading n fs
operand_reading n v = Err fault.BadOperand

abbrev pub operator_reading : Option OperatorName → Val → Reading (List Change)
operator_reading None v = Err fault.UnknownOperator
operator_reading (Some n) v = operand_reading n v

abbrev pub changes_reading : Fields → Reading (List Change)
changes_reading no_fields = Ok []
changes_reading (field n v fs) = with_both (λ a b. a ++ b) (operator_reading (operator_named n) v) (changes_reading fs)

-- An object with no name that begins with `$` is a replacement; one with such names alone is operators; a mixture is neither.
abbrev pub fields_reading : Fields → Reading Modification
fields_reading fs =
    if not (has_operator fs) then Ok (replaced_by (entries_of fs)) else (
    if has_plain_name fs then Err fault.BadOperand else made changed_by (changes_reading fs))

abbrev pub reading : Val → Reading Modification
reading (object fs) = fields_reading fs
reading v = Err fault.NotObject

-- one operator with one path
abbrev pub one_operator : List ℕ → List ℕ → Val → Val
one_operator n written v = object (field n (object (field written v no_fields)) no_fields)

-- The call answers as the reading says, or want of memory.
abbrev pub Gives : {T X : Type 0} → (T → X) → Result T ModifierFault → Reading X → Type 0
Gives f (Ok t) r = r ≡ Ok (f t)
Gives f (Err fault.Memory) r = Unit {0}
Gives f (Err e) r = r ≡ Err e
