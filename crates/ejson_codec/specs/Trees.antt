-- Which JSON trees are in the form that a text is read into, and which have `$escape` exactly where it must be.
use Rattle.std.specs.Prelude.{◌≡◌, pos, ◌<ℤ◌, true}
use Rattle.std.specs.List.Sorted.{IsStrictlySortedBy}
use Rattle.serde_json.specs.Data.{Num, unsigned, negative, float, Data, null, boolean, number, string, array, object, Items, no_items, item, Members}
use Rattle.serde_json.specs.Data.{no_members, member}
use Rattle.value_model.specs.Order.{text_cmp}
use Rattle.value_model.specs.Size.{is_special}
use Rattle.ejson_codec.specs.Shape.{keys_of_members, shape_of}
use Rattle.ejson_codec.specs.Reads.{ByShape}

-- an integer is held as `negative` only below 0
abbrev pub IsHeldOnce : Num → Type 0
IsHeldOnce (unsigned n) = Unit {0}
IsHeldOnce (negative z) = z <ℤ pos 0
IsHeldOnce (float x) = Unit {0}

abbrev mutual
  pub HoldsNumbersOnce : Data → Type 0
  HoldsNumbersOnce null = Unit {0}
  HoldsNumbersOnce (boolean b) = Unit {0}
  HoldsNumbersOnce (number n) = IsHeldOnce n
  HoldsNumbersOnce (string s) = Unit {0}
  HoldsNumbersOnce (array ds) = ItemsHoldNumbersOnce ds
  HoldsNumbersOnce (object ms) = MembersHoldNumbersOnce ms

  pub ItemsHoldNumbersOnce : Items → Type 0
  ItemsHoldNumbersOnce no_items = Unit {0}
  ItemsHoldNumbersOnce (item d ds) = HoldsNumbersOnce d × ItemsHoldNumbersOnce ds

  pub MembersHoldNumbersOnce : Members → Type 0
  MembersHoldNumbersOnce no_members = Unit {0}
  MembersHoldNumbersOnce (member key d ms) = HoldsNumbersOnce d × MembersHoldNumbersOnce ms

-- the keys of each object rise strictly, byte by byte
abbrev mutual
  pub HasRisingKeys : Data → Type 0
  HasRisingKeys null = Unit {0}
  HasRisingKeys (boolean b) = Unit {0}
  HasRisingKeys (number n) = Unit {0}
  HasRisingKeys (string s) = Unit {0}
  HasRisingKeys (array ds) = ItemsHaveRisingKeys ds
  HasRisingKeys (object ms) = IsStrictlySortedBy text_cmp (keys_of_members ms) × MembersHaveRisingKeys ms

  pub ItemsHaveRisingKeys : Items → Type 0
  ItemsHaveRisingKeys no_items = Unit {0}
  ItemsHaveRisingKeys (item d ds) = HasRisingKeys d × ItemsHaveRisingKeys ds

  pub MembersHaveRisingKeys : Members → Type 0
  MembersHaveRisingKeys no_members = Unit {0}
  MembersHaveRisingKeys (member key d ms) = HasRisingKeys d × MembersHaveRisingKeys ms

-- a tree in the form that `serde_json` keeps
pub record IsTree (d : Data) : Type 0 where
  pub numbers : HoldsNumbersOnce d
  pub keys : HasRisingKeys d

-- `$escape` stands only round objects whose own keys are special
abbrev mutual
  pub IsEscapedExactly : Data → Type 0
  IsEscapedExactly null = Unit {0}
  IsEscapedExactly (boolean b) = Unit {0}
  IsEscapedExactly (number n) = Unit {0}
  IsEscapedExactly (string s) = Unit {0}
  IsEscapedExactly (array ds) = ItemsAreEscapedExactly ds
  IsEscapedExactly (object ms) =
      ByShape (shape_of (keys_of_members ms)) (MembersAreEscapedExactly ms) (Unit {0}) (Unit {0}) (EscapesSpecial ms) (MembersAreEscapedExactly ms)

  pub ItemsAreEscapedExactly : Items → Type 0
  ItemsAreEscapedExactly no_items = Unit {0}
  ItemsAreEscapedExactly (item d ds) = IsEscapedExactly d × ItemsAreEscapedExactly ds

  pub MembersAreEscapedExactly : Members → Type 0
  MembersAreEscapedExactly no_members = Unit {0}
  MembersAreEscapedExactly (member key d ms) = IsEscapedExactly d × MembersAreEscapedExactly ms

  -- what stands at `$escape` is an object with special keys
  pub EscapesSpecial : Members → Type 0
  EscapesSpecial (member key (object inner) ms) = (is_special (keys_of_members inner) ≡ true) × MembersAreEscapedExactly inner
  EscapesSpecial _ = ⊥
