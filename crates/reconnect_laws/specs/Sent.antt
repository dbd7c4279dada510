-- Documents that a message can hold.
use Rattle.std.specs.Prelude.{ℕ, ◌<◌, length, IfSome}
use Rattle.map_model.specs.Maps.{at, IsSorted}
use Rattle.value_model.specs.Val.{object, Entries, fields_of}
use Rattle.value_model.specs.Valid.{IsDocument}
use Rattle.ejson_value.specs.declared.key.Key.{Key}
use Rattle.ejson_value.specs.Key.{key_cmp}
use Rattle.ejson_value.specs.Rows.{Rows}
use Rattle.ddp_messages.specs.Limits.{IsShallow}

-- fields of values, by rising name, of at most 32 levels
abbrev pub FitMessage : Entries → Type 0
FitMessage es = IsDocument es × IsShallow (object (fields_of es))

-- a key with an id, and such a document
abbrev pub IsSent : Key → Entries → Type 0
IsSent key doc = (0 < length key.id) × FitMessage doc

pub record AreSent (rows : Rows) : Type 0 where
  pub sorted : IsSorted key_cmp rows
  pub each : (key : Key) → IfSome (at key_cmp rows key) (IsSent key)
