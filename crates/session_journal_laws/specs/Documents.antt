-- The documents of a merge are documents that a store may have, since each field is that of one of them.
use Rattle.std.specs.Prelude.{suc, ◌≤◌, [], ◌∷◌}
use Rattle.value_model.specs.Val.{Val, Entries}
use Rattle.value_model.specs.Depth.{depth}
use Rattle.value_model.specs.Valid.{IsValue}
use Rattle.ejson_codec.specs.Reading.{max_levels}

-- a value that may be a field's
abbrev pub IsField : Val → Type 0
IsField v = IsValue v × (suc (depth v) ≤ max_levels)

abbrev pub AreFields : Entries → Type 0
AreFields [] = Unit {0}
AreFields (e ∷ es) = IsField e.1 × AreFields es
