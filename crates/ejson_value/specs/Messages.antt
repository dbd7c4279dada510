-- Messages about documents, as the laws of differences speak of them.
use Rattle.std.specs.Prelude.{ℕ, List, map}
use Rattle.map_model.specs.Differences.{Step, added, changed, removed}
use Rattle.value_model.specs.Val.{Val}
use Rattle.ejson_value.specs.declared.key.Key.{Key}
use Rattle.ejson_value.specs.declared.message.DataMsg.{DataMsg}
use Rattle.ejson_value.specs.declared.message.DataMsg.TheVariants as message

-- the document that the message is about, and what it says of it
abbrev pub said : DataMsg → Key × Step (List ℕ) Val
said (message.Added key fields) = (key, added fields)
said (message.Changed key fields cleared) = (key, changed fields cleared)
said (message.Removed key) = (key, removed)

-- the message about a document that says this of it
abbrev pub saying : Key × Step (List ℕ) Val → DataMsg
saying (key, added fields) = message.Added key fields
saying (key, changed fields cleared) = message.Changed key fields cleared
saying (key, removed) = message.Removed key

abbrev pub all_said : List DataMsg → List (Key × Step (List ℕ) Val)
all_said messages = map said messages
