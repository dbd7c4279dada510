-- The items of a session's journal: what the session did, in order. An item that answers a text holds that text's message (Meteor's DDP.md).
use Rattle.std.specs.Prelude.{ℕ, List, [], ◌∷◌, ◌++◌, Option}
use Rattle.value_model.specs.Val.{Val}
use Rattle.ddp_messages.specs.ClientMessage.{ClientMessage}
use Rattle.ddp_messages.specs.ClientMessage as client
use Rattle.publication.specs.Cursors.{ACursors}
use Rattle.session_model.specs.declared.fault.SubFault.{SubFault}

pub data Item : Type 0 where
  -- a `connect` of this session's version was taken, or of another one
  connect : Item
  fail : Item
  -- a `ping` with this id, or a `pong`, was taken
  ping : Option (List ℕ) → Item
  pong : Item
  -- a text was refused, for this reason; the object that it is, where it is one of EJSON
  bad : List ℕ → Option Val → Item
  -- a `sub` opened the subscription of this number, with these cursors
  subscribe : ℕ → ClientMessage → ACursors → Item
  -- a `sub` with the id of a live subscription
  same : ClientMessage → Item
  -- a `sub` was refused; or an `unsub` had no live subscription
  nosub : ClientMessage → Option SubFault → Item
  -- an `unsub` ended the subscription
  close : ℕ → ClientMessage → Item
  -- a `method` of a known name is the call of this number, with this seed; it blocks
  call : ℕ → ClientMessage → Val → Item
  -- a `method` of an unknown name
  unknown : ClientMessage → Item
  -- the subscription shows the documents of this place of the history; it goes this many entries on
  load : ℕ → ℕ → Item
  advance : ℕ → ℕ → Item
  -- the history had no room for the call, at this length; the call lets the next message be handled; its run had ended at this length
  refused : ℕ → ℕ → Item
  unblocked : ℕ → Item
  finished : ℕ → ℕ → Item

-- ---- what a message says

-- the id of a subscription or a method
abbrev pub id_of : ClientMessage → List ℕ
id_of (client.sub id name params) = id
id_of (client.unsub id) = id
id_of (client.method id name params seed) = id
id_of message = []

-- the name of a publication or a method
abbrev pub name_of : ClientMessage → List ℕ
name_of (client.sub id name params) = name
name_of (client.method id name params seed) = name
name_of message = []

abbrev pub params_of : ClientMessage → List Val
params_of (client.sub id name params) = params
params_of (client.method id name params seed) = params
params_of message = []

-- ---- which messages the items handle

-- the message that an item handles
abbrev pub handled_by : Item → List ClientMessage
handled_by (subscribe s message cursors) = message ∷ []
handled_by (same message) = message ∷ []
handled_by (nosub message fault) = message ∷ []
handled_by (close s message) = message ∷ []
handled_by (call k message seed) = message ∷ []
handled_by (unknown message) = message ∷ []
handled_by item = []

-- the messages that were handled, in order
abbrev pub handled : List Item → List ClientMessage
handled [] = []
handled (i ∷ items) = handled_by i ++ handled items
