-- A modifier that is read from a value makes a document of values of a document of values.
use Rattle.std.specs.Prelude.{◌-◌, List, [], ◌∷◌, Option, IfSome, IfOk}
use Rattle.value_model.specs.Val.{Val, vals_of}
use Rattle.value_model.specs.Valid.{IsWhole, IsValue, AreValues, IsDocument}
use Rattle.modifier_apply.specs.Change.{Edit, put_value, add, keep_least, keep_greatest, append_all, add_missing, Change, Modification, replaced_by, changed_by}
use Rattle.modifier_apply.specs.Modified.{Outcome}

-- the operands of an edit
abbrev pub IsEdit : Edit → Type 0
IsEdit (put_value v) = IsValue v
IsEdit (add n) = IsWhole n
IsEdit (keep_least v) = IsValue v
IsEdit (keep_greatest v) = IsValue v
IsEdit (append_all vs) = AreValues (vals_of vs)
IsEdit (add_missing vs) = AreValues (vals_of vs)
IsEdit _ = Unit {0}

abbrev pub AreEdits : List Change → Type 0
AreEdits [] = Unit {0}
AreEdits (c ∷ cs) = IsEdit c.edit × AreEdits cs

-- what a modifier puts into a document
abbrev pub IsModification : Modification → Type 0
IsModification (replaced_by fields) = IsDocument fields
IsModification (changed_by cs) = AreEdits cs

abbrev pub AreListed : List Val → Type 0
AreListed vs = AreValues (vals_of vs)

abbrev pub IsLeft : Option Val → Type 0
IsLeft left = IfSome left IsValue

-- ---- along a path

-- a change leaves a value of a value, or of nothing
abbrev pub Keeps : (Option Val → Outcome (Option Val)) → Type 0
Keeps change = (there : Option Val) → IsLeft there → IfOk (change there) IsLeft

-- ---- what is read

abbrev pub IsChange : Change → Type 0
IsChange c = IsEdit c.edit
