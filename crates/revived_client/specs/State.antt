-- A client that lives through several links: the client without the texts that it queued, what is remembered between its sessions,
-- where those texts wait to be said, and why it takes no text any more, if it doesn't.
use Rattle.std.specs.Prelude.{ℕ, List, [], ◌∷◌, Option, None}
use Rattle.app_model.specs.App.{App}
use Rattle.client_core.specs.State.{Own}
use Rattle.console_run.specs.Console.{begun}
use Rattle.reconnect_model.specs.Revival.{Revival, new_revival}
use Rattle.reconnect_model.specs.Saying.{queues}
use Rattle.revived_client.specs.declared.client.Stop.{Stop}

pub record RevivedState : Type 0 where
  pub own : Own
  pub revival : Revival
  pub stop : Option Stop

-- without the texts that it queued
abbrev pub quiet : Own → Own
quiet own = record own { client = record own.client { waiting = [] } }

-- the client queued these texts
abbrev pub all_queued : Revival → List (List ℕ) → Revival
all_queued r [] = r
all_queued r (text ∷ texts) = all_queued (queues r text) texts

-- once the client is this one: the texts that it queued wait to be said
abbrev pub spoken : Own → RevivedState → RevivedState
spoken own v = record v { own = quiet own; revival = all_queued v.revival own.client.waiting }

-- at the beginning
abbrev pub new_state : App → RevivedState
new_state app = spoken (begun app) (record { own = begun app; revival = new_revival; stop = None })
