-- A template of values that is filled with values is one.
use Rattle.std.specs.Prelude.{◌≡◌}
use Rattle.std.specs.Map.{keys_of}
use Rattle.value_model.specs.Val.{Fields, entries_of}
use Rattle.value_model.specs.Valid.{HaveValues}

-- fields of values, with the names of others
abbrev pub IsLike : Fields → Fields → Type 0
IsLike fs gs = HaveValues gs × (keys_of (entries_of gs) ≡ keys_of (entries_of fs))
