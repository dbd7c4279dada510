-- The number that a word tells: `0`, or decimal digits without a leading zero or a sign.
use Rattle.std.specs.Prelude.{ℕ, nat_le, List, Bool, ◌&&◌, Option, Some, None, if◌then◌else◌}
use Rattle.std.specs.Str.Parse.{digits_value}
use Rattle.value_model.specs.Branches.{has_plain_digits}

abbrev pub is_between : ℕ → ℕ → ℕ → Bool
is_between least most n = nat_le least n && nat_le n most

-- the number of a word, where it tells one within these bounds
abbrev pub number_in : ℕ → ℕ → List ℕ → Option ℕ
number_in least most word = if has_plain_digits word && is_between least most (digits_value 10 word) then Some (digits_value 10 word) else None
