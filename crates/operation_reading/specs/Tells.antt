-- Texts that tell of an operation of an administrator, read from their tokens.
use Rattle.std.specs.Prelude.{◌≡◌, ℕ, ◌+◌, ◌<◌, ◌≤◌, List, [], ◌∷◌, length, codes, Bool, Some, Ok, if◌then◌else◌}
use Rattle.json.specs.Token.{Token}
use Rattle.json.specs.Json.{after_end_array}
use Rattle.value_model.specs.Val.{Val, text, list, vals_of}
use Rattle.value_model.specs.Valid.{IsValue, AreValues}
use Rattle.value_model.specs.Depth.{depth, vals_depth}
use Rattle.ejson_codec.specs.Reading.{max_levels, parsed}
use Rattle.ejson_codec.specs.Plain.{ValueRead}
use Rattle.collection_store.specs.declared.operation.Op.{Op}
use Rattle.history_model.specs.Operations.{operation_named, operation_in}

-- `["admin",[..]]`
abbrev pub told_value : List Val → Val
told_value op = list (vals_of (text (codes "admin") ∷ list (vals_of op) ∷ []))

-- the text is `["admin",[..]]`, and its second list is the operation
abbrev pub Tells : List ℕ → Op → Type 0
Tells line op = (vs : List Val) × (parsed line ≡ Ok (told_value vs)) × AreValues (vals_of vs) × (operation_in vs ≡ Some op)

-- ---- by tokens

-- how deep an operand may be: it stands in two lists
abbrev pub max_inside : ℕ
max_inside = 30

-- the value comes first, and these tokens follow
abbrev pub OperandRead : List Token → Val → List Token → Type 0
OperandRead tokens v rest = ValueRead max_levels tokens v rest × (length rest < length tokens) × (depth v ≤ max_inside) × IsValue v

-- the values come first, one by one, and these tokens follow
abbrev pub AreNext : ℕ → List Token → List Val → List Token → Type 0
AreNext levels tokens [] rest = tokens ≡ rest
AreNext levels tokens (v ∷ vs) rest = (more : List Token) × ValueRead levels tokens v more × (length more < length tokens) × AreNext levels more vs rest

-- the operands of an operation of this name come first, and these tokens follow
abbrev pub OperationRead : List ℕ → List ℕ → List Token → Op → List Token → Type 0
OperationRead name collection tokens op rest =
    (vs : List Val) × AreNext max_levels tokens vs rest × (vals_depth (vals_of vs) ≤ max_inside) × AreValues (vals_of vs) ×
    (operation_named name collection vs ≡ Some op)

abbrev pub update_name : Bool → List ℕ
update_name all = if all then codes "updateAll" else codes "update"

-- two lists end, and nothing follows
abbrev pub IsOver : List Token → Type 0
IsOver tokens = (outer : List Token) × (after_end_array tokens ≡ Some outer) × (after_end_array outer ≡ Some [])

-- the tokens are those of an operation in two lists
abbrev pub LineRead : List Token → Op → Type 0
LineRead tokens op =
    (vs : List Val) × ValueRead (max_levels + 2) tokens (told_value vs) [] × (vals_depth (vals_of vs) ≤ max_inside) × AreValues (vals_of vs) ×
    (operation_in vs ≡ Some op)
