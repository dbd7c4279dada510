-- What reading a text answers: the message that it is, or why it is none.
use Rattle.std.specs.Prelude.{◌≡◌, ℕ, List, Option, Some, None, Result, Ok, Err, Bool, true, false, is_some}
use Rattle.serde_json.specs.Data.{Data}
use Rattle.serde_json.specs.Find.{as_object}
use Rattle.serde_json.specs.Read as json
use Rattle.ddp_messages.specs.Fields.{name_of}
use Rattle.ddp_messages.specs.ClientMessage.{ClientMessage, ClientReads, client_reading}
use Rattle.ddp_messages.specs.ServerMessage.{ServerMessage, ServerReads, server_reading}
use Rattle.ddp_messages.specs.declared.fault.MsgFault.{MsgFault}
use Rattle.ddp_messages.specs.declared.fault.MsgFault.TheVariants.{Parse, BadRequest, Memory}

-- the text is JSON, and its object is this message
abbrev pub IsClientText : List ℕ → ClientMessage → Type 0
IsClientText input message = (d : Data) × (json.read input ≡ Some d) × ClientReads d message

abbrev pub IsServerText : List ℕ → ServerMessage → Type 0
IsServerText input message = (d : Data) × (json.read input ≡ Some d) × (is_some (as_object d) ≡ true) × ServerReads d message

-- the message that was found, or a bad request of this name
abbrev pub or_bad : {M : Type 0} → Option (List ℕ) → Option M → Result M MsgFault
or_bad name None = Err (BadRequest name)
or_bad name (Some message) = Ok message

-- the tree of a text, if it is JSON
abbrev pub tree_answer : Option Data → Result Data MsgFault
tree_answer None = Err Parse
tree_answer (Some d) = Ok d

-- `Parse` exactly where the text is no JSON; `BadRequest`, with the object's text `msg`, where its tree is no message
abbrev pub client_tree : Option Data → Result ClientMessage MsgFault
client_tree None = Err Parse
client_tree (Some d) = or_bad (name_of d) (client_reading d)

abbrev pub client_answer : List ℕ → Result ClientMessage MsgFault
client_answer input = client_tree (json.read input)

abbrev pub if_object : {M : Type 0} → Bool → Result M MsgFault → Result M MsgFault
if_object true answer = answer
if_object false answer = Err Parse

-- `Parse` exactly where the text is no JSON object
abbrev pub server_tree : Option Data → Result ServerMessage MsgFault
server_tree None = Err Parse
server_tree (Some d) = if_object (is_some (as_object d)) (or_bad (name_of d) (server_reading d))

abbrev pub server_answer : List ℕ → Result ServerMessage MsgFault
server_answer input = server_tree (json.read input)

-- The call answers this, want of memory aside.
abbrev pub GivesMessage : {A B : Type 0} → (A → B) → Result A MsgFault → Result B MsgFault → Type 0
GivesMessage f (Ok a) answer = answer ≡ Ok (f a)
GivesMessage f (Err Parse) answer = answer ≡ Err Parse
GivesMessage f (Err (BadRequest name)) answer = answer ≡ Err (BadRequest name)
GivesMessage f (Err Memory) answer = Unit {0}
