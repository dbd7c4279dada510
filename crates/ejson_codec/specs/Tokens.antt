-- The tokens of the compact text of a JSON tree.
use Rattle.std.specs.Prelude.{List}
use Rattle.json.specs.Token.{Token}
use Rattle.json.specs.Tree as json
use Rattle.serde_json.specs.Data.{Data, Items, Members}
use Rattle.serde_json.specs.Written.{outline, items_outline, members_outline}

abbrev pub tree_tokens : Data → List Token
tree_tokens d = json.json_tokens (outline d)

-- those of an array behind its opening bracket
abbrev pub elements_tokens : Items → List Token
elements_tokens ds = json.items_tokens (items_outline ds)

-- those of an object behind its opening bracket
abbrev pub members_tokens : Members → List Token
members_tokens ms = json.members_tokens (members_outline ms)
