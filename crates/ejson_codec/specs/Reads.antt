-- Which EJSON value a JSON tree reads as, by cases over what an object stands for.
use Rattle.std.specs.Prelude.{◌≡◌, ℕ, ◌<◌, ℤ, pos, List, [], ◌∷◌, All}
use Rattle.serde_json.specs.Data.{Num, unsigned, negative, float, Data, Items, no_items, item, Members, no_members, member}
use Rattle.serde_json.specs.Data as json
use Rattle.value_model.specs.Val.{Val, null, boolean, int, text, date, bytes, list, object, user, vals_of, Entries, fields_of}
use Rattle.value_model.specs.Valid.{IsWhole, IsUserName}
use Rattle.ejson_codec.specs.Shape.{keys_of_members, shape_of, first_of}
use Rattle.ejson_codec.specs.Base64.{base64}
use Rattle.ejson_codec.specs.declared.shape.Shape.{Shape}
use Rattle.ejson_codec.specs.declared.shape.Shape.TheVariants.{Plain, Date, Binary, Escape, User, Unsupported}

-- the number is held as this integer, and it is within ±(2^53 - 1)
abbrev pub IsAccepted : Num → ℤ → Type 0
IsAccepted (unsigned n) z = (z ≡ pos n) × IsWhole z
IsAccepted (negative y) z = (z ≡ y) × IsWhole z
IsAccepted (float x) z = ⊥

-- what stands at `$date` is a number, the milliseconds since 1970
abbrev pub IsDate : Data → Val → Type 0
IsDate (json.number n) v = (z : ℤ) × IsAccepted n z × (v ≡ date z)
IsDate _ v = ⊥

-- what stands at `$binary` is the base64 text of the bytes
abbrev pub IsBinary : Data → Val → Type 0
IsBinary (json.string s) v = (b : List ℕ) × (s ≡ base64 b) × All (λ x. x < 256) b × (v ≡ bytes b)
IsBinary _ v = ⊥

-- what stands at `$type` is the name of a user type, a text of 1 to 128 bytes
abbrev pub IsNamed : Data → List ℕ → Type 0
IsNamed (json.string s) name = (name ≡ s) × IsUserName name
IsNamed _ name = ⊥

-- the fact for what the object stands for
abbrev pub ByShape : Shape → Type 0 → Type 0 → Type 0 → Type 0 → Type 0 → Type 0
ByShape Plain on_plain on_date on_binary on_escape on_user = on_plain
ByShape Date on_plain on_date on_binary on_escape on_user = on_date
ByShape Binary on_plain on_date on_binary on_escape on_user = on_binary
ByShape Escape on_plain on_date on_binary on_escape on_user = on_escape
ByShape User on_plain on_date on_binary on_escape on_user = on_user
ByShape Unsupported on_plain on_date on_binary on_escape on_user = ⊥

abbrev mutual
  pub Reads : Data → Val → Type 0
  Reads json.null v = v ≡ null
  Reads (json.boolean b) v = v ≡ boolean b
  Reads (json.number n) v = (z : ℤ) × IsAccepted n z × (v ≡ int z)
  Reads (json.string s) v = v ≡ text s
  Reads (json.array ds) v = (vs : List Val) × ItemsRead ds vs × (v ≡ list (vals_of vs))
  Reads (json.object ms) v = ByShape (shape_of (keys_of_members ms))
      ((es : Entries) × MembersRead ms es × (v ≡ object (fields_of es)))
      (IsDate (first_of ms) v) (IsBinary (first_of ms) v) (EscapeReads ms v) (UserReads ms v)

  -- the elements, one by one
  pub ItemsRead : Items → List Val → Type 0
  ItemsRead no_items vs = vs ≡ []
  ItemsRead (item d ds) vs = (v : Val) × (rest : List Val) × Reads d v × ItemsRead ds rest × (vs ≡ v ∷ rest)

  -- the members, one by one, each under its own key
  pub MembersRead : Members → Entries → Type 0
  MembersRead no_members es = es ≡ []
  MembersRead (member key d ms) es = (v : Val) × (rest : Entries) × Reads d v × MembersRead ms rest × (es ≡ (key, v) ∷ rest)

  -- what stands at `$escape` is an object, whose own keys are taken as they stand
  pub EscapeReads : Members → Val → Type 0
  EscapeReads (member key (json.object inner) ms) v = (es : Entries) × MembersRead inner es × (v ≡ object (fields_of es))
  EscapeReads _ v = ⊥

  -- what stands at `$type` is the name, and what stands at `$value` reads as the value behind it
  pub UserReads : Members → Val → Type 0
  UserReads (member key named (member other d ms)) v = (name : List ℕ) × (w : Val) × IsNamed named name × Reads d w × (v ≡ user name w)
  UserReads _ v = ⊥
