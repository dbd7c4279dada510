-- The first parts of the paths of a modifier, as they stand in the value that is read as one (dot notation, in MongoDB's documentation).
use Rattle.std.specs.Prelude.{ℕ, List, [], ◌∷◌, ◌++◌, ◌==◌}
use Rattle.std.specs.List.{before_first}
use Rattle.value_model.specs.Val.{Val, object, Fields, no_fields, field}

-- a path up to its first dot
abbrev pub first_part : List ℕ → List ℕ
first_part path = before_first (λ b. b == 46) path

-- behind others: those of the paths of one operator
abbrev pub paths_behind : List (List ℕ) → Fields → List (List ℕ)
paths_behind so_far no_fields = so_far
paths_behind so_far (field path operand fs) = paths_behind (so_far ++ first_part path ∷ []) fs

abbrev pub operand_behind : List (List ℕ) → Val → List (List ℕ)
operand_behind so_far (object fs) = paths_behind so_far fs
operand_behind so_far v = so_far

-- those of each operator
abbrev pub operands_behind : List (List ℕ) → Fields → List (List ℕ)
operands_behind so_far no_fields = so_far
operands_behind so_far (field name operand fs) = operands_behind (operand_behind so_far operand) fs

abbrev pub parts_in : Val → List (List ℕ)
parts_in (object fs) = operands_behind [] fs
parts_in v = []
