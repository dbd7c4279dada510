-- Trees whose compact text says all of them: no floats, and integers that a text of JSON holds (RFC 8259).
use Rattle.std.specs.Prelude.{suc, ◌<◌, ◌^◌, pos, negsuc}
use Rattle.serde_json.specs.Data.{Num, unsigned, negative, float, Data, null, boolean, number, string, array, object, Items, no_items, item, Members}
use Rattle.serde_json.specs.Data.{no_members, member}

abbrev pub IsExactNumber : Num → Type 0
IsExactNumber (unsigned n) = n < 2 ^ 64
IsExactNumber (negative (pos n)) = ⊥
IsExactNumber (negative (negsuc n)) = suc n < 2 ^ 63
IsExactNumber (float x) = ⊥

abbrev mutual
  pub HasExactNumbers : Data → Type 0
  HasExactNumbers null = Unit {0}
  HasExactNumbers (boolean b) = Unit {0}
  HasExactNumbers (number n) = IsExactNumber n
  HasExactNumbers (string s) = Unit {0}
  HasExactNumbers (array ds) = ItemsHaveExactNumbers ds
  HasExactNumbers (object ms) = MembersHaveExactNumbers ms

  pub ItemsHaveExactNumbers : Items → Type 0
  ItemsHaveExactNumbers no_items = Unit {0}
  ItemsHaveExactNumbers (item d ds) = HasExactNumbers d × ItemsHaveExactNumbers ds

  pub MembersHaveExactNumbers : Members → Type 0
  MembersHaveExactNumbers no_members = Unit {0}
  MembersHaveExactNumbers (member key d ms) = HasExactNumbers d × MembersHaveExactNumbers ms
