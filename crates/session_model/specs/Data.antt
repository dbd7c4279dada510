-- What messages say of documents, in order.
use Rattle.std.specs.Prelude.{ℕ, List, [], ◌∷◌, ◌++◌}
use Rattle.map_model.specs.Differences.{Step}
use Rattle.value_model.specs.Val.{Val}
use Rattle.ejson_value.specs.declared.key.Key.{Key}
use Rattle.ejson_value.specs.Messages.{said}
use Rattle.ddp_messages.specs.ServerMessage.{ServerMessage}
use Rattle.ddp_messages.specs.ServerMessage as server

abbrev pub data_in : ServerMessage → List (Key × Step (List ℕ) Val)
data_in (server.about message) = said message ∷ []
data_in message = []

abbrev pub data_of : List ServerMessage → List (Key × Step (List ℕ) Val)
data_of [] = []
data_of (m ∷ messages) = data_in m ++ data_of messages
