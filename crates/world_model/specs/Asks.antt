-- What is asked of a client from outside: to subscribe, to end a subscription, to call a method, to send a text as it stands, and to be gone.
use Rattle.std.specs.Prelude.{ℕ, suc, List, length, Bool, true, not, ◌&&◌}
use Rattle.value_model.specs.Val.{Val}
use Rattle.program_model.specs.Steps.{Stepped, simulated}
use Rattle.program_model.specs.Touched.{each_once}
use Rattle.app_model.specs.App.{App, method}
use Rattle.client_model.specs.Client.{Client}
use Rattle.client_model.specs.Asking.{can_sub, subscribed, can_unsub, unsubscribed, can_call, seed_of, called, can_send, with_text}
use Rattle.world_model.specs.Conn.{Conn}

pub data Ask : Type 0 where
  -- to subscribe with this id to the publication of this name
  subscribe : List ℕ → List ℕ → List Val → Ask
  unsubscribe : List ℕ → Ask
  -- to call the method of this name
  call : List ℕ → List Val → Ask
  -- to send this text
  raw : List ℕ → Ask
  -- to be gone
  drop : Ask

abbrev pub can_ask : Conn → Ask → Bool
can_ask c (subscribe id name params) = not c.is_dropped && can_sub id c.client
can_ask c (unsubscribe id) = not c.is_dropped && can_unsub id c.client
can_ask c (call name params) = not c.is_dropped && can_call c.client
can_ask c (raw t) = not c.is_dropped && can_send c.client
can_ask c drop = not c.is_dropped

-- ---- calls

-- what the stub of the method makes of what the client shows: nothing where the method has none
abbrev pub stub_run : App → List ℕ → List Val → Client → Stepped
stub_run app name params c = simulated app.collections (method app name) params (seed_of c.session (suc (length c.calls))) c.documents.view

-- the call is made, and what its stub does is shown until the server's own writes are there (Meteor's guide, "Methods", "Optimistic UI")
abbrev pub calls : App → List ℕ → List Val → Client → Client
calls app name params c = let stub = stub_run app name params c in called name params stub.rows (each_once stub.touched) c

-- ---- all of them

-- nothing is left to a client that is gone but its runs; what it had and what its session did can still be seen
abbrev pub asked : App → Conn → Ask → Conn
asked app c (subscribe id name params) = record c { client = subscribed id name params c.client }
asked app c (unsubscribe id) = record c { client = unsubscribed id c.client }
asked app c (call name params) = record c { client = calls app name params c.client }
asked app c (raw t) = record c { client = with_text t c.client; made_raw = true }
asked app c drop = record c { is_dropped = true }
