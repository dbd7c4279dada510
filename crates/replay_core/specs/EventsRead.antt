-- The event that is read from a value of the program is an event of the program.
use Rattle.std.specs.Prelude.{ℕ, List}
use Rattle.value_model.specs.Val.{Val, text, list, Vals, vals_of}
use Rattle.value_model.specs.Valid.{AreValues}
use Rattle.ddp_messages.specs.Limits.{AreShallow}

-- ---- parts of a list

-- what follows the text that stands first
abbrev pub Follows : List ℕ × Vals → Type 0
Follows first = AreValues first.1

-- parameters of values, each of at most 32 levels
abbrev pub AreFit : List Val → Type 0
AreFit params = AreValues (vals_of params) × AreShallow params
