-- What a client is told of its subscriptions, by id, and what its requests call for (Meteor's DDP.md, "Managing data": a `sub` is
-- answered by `ready` or `nosub`, an `unsub` by `nosub`).
use Rattle.std.specs.Prelude.{ℕ, List, [], ◌∷◌, ◌++◌, ◌&&◌, is_some, if◌then◌else◌}
use Rattle.value_model.specs.Size.{is_name}
use Rattle.ddp_messages.specs.ServerMessage.{ServerMessage}
use Rattle.ddp_messages.specs.ServerMessage as server
use Rattle.session_model.specs.Items.{Item, id_of}
use Rattle.session_model.specs.Items as item
use Rattle.session_model.specs.LooksBack.{SubAnswer, ready, ended, loaded_at}

-- ---- messages

abbrev pub readies_in : List ℕ → List (List ℕ) → List SubAnswer
readies_in id [] = []
readies_in id (x ∷ ids) = (if is_name id x then ready ∷ [] else []) ++ readies_in id ids

abbrev pub reply_in : List ℕ → ServerMessage → List SubAnswer
reply_in id (server.ready ids) = readies_in id ids
reply_in id (server.nosub x fault) = if is_name id x then ended ∷ [] else []
reply_in id message = []

-- the `ready`s and the `nosub`s with this id, in order
abbrev pub replies : List ℕ → List ServerMessage → List SubAnswer
replies id [] = []
replies id (m ∷ ms) = reply_in id m ++ replies id ms

-- ---- requests

-- A `sub` that opens a subscription has a `ready` where the subscription is loaded in what follows. One that is refused has a
-- `nosub`, and so has each `unsub`. A `sub` with the id of a live subscription has none of its own.
abbrev pub reply_to : List ℕ → Item → List Item → List SubAnswer
reply_to id (item.subscribe s message cursors) following =
    if is_name id (id_of message) && is_some (loaded_at s following) then ready ∷ [] else []
reply_to id (item.nosub message fault) following = if is_name id (id_of message) then ended ∷ [] else []
reply_to id (item.close s message) following = if is_name id (id_of message) then ended ∷ [] else []
reply_to id i following = []

-- what the requests with this id have, in their order
abbrev pub replies_due : List ℕ → List Item → List SubAnswer
replies_due id [] = []
replies_due id (i ∷ items) = reply_to id i items ++ replies_due id items
