-- The tokens of a message's members.
use Rattle.std.specs.Prelude.{ℕ, List, [], ◌∷◌, Option, Some, None}
use Rattle.json.specs.Token.{Token, key}
use Rattle.serde_json.specs.Data.{Data}
use Rattle.ejson_codec.specs.Tokens.{tree_tokens}

-- those of the member at this key, if there is one
abbrev pub field_tokens : List ℕ → Option Data → List Token
field_tokens name None = []
field_tokens name (Some d) = key name ∷ tree_tokens d
