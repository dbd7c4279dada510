-- What a text reads as is a value of the program, of at most 32 levels.
use Rattle.std.specs.Prelude.{◌≤◌, ℕ, List, [], ◌∷◌}
use Rattle.std.specs.List.Sorted.{IsStrictlySortedBy}
use Rattle.serde_json.specs.Data.{Data, object, Members, no_members, member, put}
use Rattle.value_model.specs.Val.{Val}
use Rattle.value_model.specs.Order.{text_cmp}
use Rattle.value_model.specs.Depth.{depth}
use Rattle.value_model.specs.Valid.{IsValue}
use Rattle.ejson_codec.specs.Shape.{keys_of_members}
use Rattle.ejson_codec.specs.Trees.{MembersHaveRisingKeys}
use Rattle.ejson_codec.specs.Reading.{max_levels}

-- ---- members that are put in one after another

abbrev pub members_of : Members → List (List ℕ × Data)
members_of no_members = []
members_of (member key d ms) = (key, d) ∷ members_of ms

-- the keys rise, and those of each object inside
abbrev pub Rise : Members → Type 0
Rise ms = IsStrictlySortedBy text_cmp (keys_of_members ms) × MembersHaveRisingKeys ms

-- ---- values

-- a value of the program, of at most 32 levels
pub record IsRead (v : Val) : Type 0 where
  pub value : IsValue v
  pub shallow : depth v ≤ max_levels
