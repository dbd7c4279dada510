-- The lines of an input, and the value that a line is.
use Rattle.std.specs.Prelude.{ℕ, ◌<◌, ◌≤◌, ◌⊎◌, List, [], ◌∷◌, ◌++◌, length, take, drop, Bool, Option, None, ◌||◌, ◌==◌, if◌then◌else◌}
use Rattle.std.specs.List.{list_all}
use Rattle.std.specs.Io.BufRead.{take_through}
use Rattle.std.specs.Str.{is_utf8}
use Rattle.std.specs.Result.{result_ok}
use Rattle.value_model.specs.Val.{Val}
use Rattle.ejson_codec.specs.Reading.{parsed}

-- how many bytes and how many lines an input may have
abbrev pub input_limit : ℕ
input_limit = 67108864

abbrev pub line_limit : ℕ
line_limit = 1048576

abbrev pub line_feed : ℕ
line_feed = 10

-- with one more byte in front of the first line
abbrev pub with_byte : ℕ → List (List ℕ) → List (List ℕ)
with_byte b [] = (b ∷ []) ∷ []
with_byte b (line ∷ lines) = (b ∷ line) ∷ lines

-- each line ends at a line feed, which the last may lack
abbrev pub lines_in : List ℕ → List (List ℕ)
lines_in [] = []
lines_in (b ∷ bytes) = if b == line_feed then [] ∷ lines_in bytes else with_byte b (lines_in bytes)

-- the lines up to that which has the byte at this place, with its line feed, or all of them
abbrev pub lines_to : ℕ → List ℕ → List ℕ
lines_to place bytes = take place bytes ++ take_through line_feed (drop place bytes)

-- the input keeps to the limits, or passes one
pub record IsWithin (input : List ℕ) : Type 0 where
  pub bytes : length input ≤ input_limit
  pub lines : length (lines_in input) ≤ line_limit

abbrev pub IsTooLong : List ℕ → Type 0
IsTooLong input = (input_limit < length input) ⊎ (line_limit < length (lines_in input))

-- the lines behind the first
abbrev pub rest_of : List (List ℕ) → List (List ℕ)
rest_of [] = []
rest_of (l ∷ ls) = ls

-- a line of spaces, tabs and carriage returns alone
abbrev pub is_blank : List ℕ → Bool
is_blank line = list_all (λ b. (b == 32) || (b == 9) || (b == 13)) line

-- the value of a line; none where it is no UTF-8, no JSON or no EJSON
abbrev pub value_in : List ℕ → Option Val
value_in line = if is_utf8 line then result_ok (parsed line) else None
