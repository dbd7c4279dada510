-- What is read from the tokens of a text without a tree: the value that its tree reads as.
use Rattle.std.specs.Prelude.{◌≡◌, ℕ, ◌≤◌, ℤ, List, length, Option, Some, Ok}
use Rattle.json.specs.Token.{Token}
use Rattle.json.specs.Json.{value, items, members}
use Rattle.serde_json.specs.Data.{Num, Data, object, Items, Members, no_members}
use Rattle.serde_json.specs.Read.{of_json, of_items, of_members, converted, read}
use Rattle.value_model.specs.Val.{Val, Entries}
use Rattle.ejson_codec.specs.Reading.{max_levels, number_reading, reading, items_reading, members_reading}

-- the text of a number stands for this whole number
abbrev pub NumberRead : Option Num → ℤ → Type 0
NumberRead found z = (n : Num) × (found ≡ Some n) × (number_reading n ≡ Ok z)

-- The tokens begin with a tree that reads as the value with so many levels left, and these tokens follow. It holds for each depth that a text may have, as
-- long as it is no less than the levels.
abbrev pub ValueRead : ℕ → List Token → Val → List Token → Type 0
ValueRead levels tokens v rest = (depth : ℕ) → levels ≤ depth
    → (d : Data) × (converted of_json (value depth tokens) ≡ Some (d, rest)) × (reading levels d ≡ Ok v)

-- the same of the elements of a list, and of the bracket behind them
abbrev pub ItemsRead : ℕ → List Token → List Val → List Token → Type 0
ItemsRead levels tokens vs rest = (depth : ℕ) → levels ≤ depth
    → (ds : Items) × (converted of_items (items (value depth) (length tokens) tokens) ≡ Some (ds, rest)) × (items_reading levels ds ≡ Ok vs)

-- the same of the members of an object, and of the brace behind them
abbrev pub MembersRead : ℕ → List Token → Entries → List Token → Type 0
MembersRead levels tokens es rest = (depth : ℕ) → levels ≤ depth
    → (ms : Members) × (converted (λ ms. of_members ms no_members) (members (value depth) (length tokens) tokens) ≡ Some (ms, rest)) ×
    (members_reading levels ms ≡ Ok es)

-- the text is JSON, and its tree reads as the value
abbrev pub IsValueText : List ℕ → Val → Type 0
IsValueText input v = (d : Data) × (read input ≡ Some d) × (reading max_levels d ≡ Ok v)

-- the text is a JSON object, and its members read as these, each with all levels left
abbrev pub IsObjectText : List ℕ → Entries → Type 0
IsObjectText input es = (ms : Members) × (read input ≡ Some (object ms)) × (members_reading max_levels ms ≡ Ok es)
