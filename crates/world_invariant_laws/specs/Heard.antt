-- A client in a world: what it shows, and the server's copy that it has by the texts that it took.
-- These and those on the link to it are the texts that were sent.
use Rattle.std.specs.Prelude.{◌≡◌, ℕ, List, [], ◌++◌, None}
use Rattle.map_model.specs.Differences.{taken, all_taken}
use Rattle.value_model.specs.Order.{text_cmp}
use Rattle.ejson_value.specs.Key.{key_cmp}
use Rattle.client_model.specs.Client.{Client}
use Rattle.client_model.specs.Showing.{IsShown}
use Rattle.world_model.specs.session_model.Texts.{messages_in}
use Rattle.world_model.specs.session_model.Data.{data_of}
use Rattle.world_model.specs.Conn.{Conn}

-- ---- what the client has

pub record IsHeard (client : Client) (sent downward : List (List ℕ)) : Type 0 where
  pub taken : List (List ℕ)
  pub is : taken ++ downward ≡ sent
  pub server : client.documents.server ≡ all_taken text_cmp key_cmp [] (data_of (messages_in taken))

pub record HasClient (client : Client) (sent downward : List (List ℕ)) : Type 0 where
  pub shown : IsShown client
  pub heard : client.broken ≡ None → IsHeard client sent downward

-- ---- the acts

abbrev pub HasHeard : Conn → Type 0
HasHeard c = HasClient c.client c.sent c.downward
