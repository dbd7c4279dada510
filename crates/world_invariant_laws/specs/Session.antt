-- A session in a world: its journal fits what its history was at each place and answers the texts that it took, and what it sent and is to send are
-- the texts of that journal.
use Rattle.std.specs.Prelude.{◌≡◌, ℕ, List, ◌++◌, map, false, Option, is_some, IfSome}
use Rattle.ddp_messages.specs.ClientMessage.{ClientMessage}
use Rattle.app_model.specs.App.{App}
use Rattle.world_model.specs.history_model.declared.entry.Entry.{Entry}
use Rattle.world_model.specs.session_model.Items.{Item}
use Rattle.world_model.specs.session_model.Methods.{Blocking}
use Rattle.world_model.specs.session_model.Moments.{Moment, moment_at}
use Rattle.world_model.specs.session_model.Out.{out_texts}
use Rattle.world_model.specs.session_model.Fits.{IsRefusedAt, Fits}
use Rattle.world_model.specs.session_model.Answering.{Answers}
use Rattle.world_model.specs.Store.{moments}
use Rattle.world_model.specs.Conn.{Waiting, Refusal, Conn, state_in}
use Rattle.world_invariant_laws.specs.Begun.{Runs, runs_of, IsBegun}

-- ---- what is so of a session

pub record IsSession (app : App) (number : ℕ) (C : List Moment) (received : List (List ℕ)) (queue : List ClientMessage) (items : List Item)
    (sent outbox : List (List ℕ)) : Type 0 where
  pub fits : Fits app number C items
  pub answers : Answers received items queue
  pub texts : sent ++ outbox ≡ out_texts C number items

-- a refusal that is kept is that of the call that blocks, which has no run
abbrev pub IsRefusal : List Moment → Runs → Option Refusal → Option Blocking → Type 0
IsRefusal C run kept blocking = IfSome kept (λ (r : Refusal). IsRefusedAt (moment_at C r.at) r.k blocking × (is_some (run r.k) ≡ false))

-- ---- the session, its runs and the refusal together

pub record IsServed (app : App) (h : List Entry) (c : Conn) : Type 0 where
  pub session : IsSession app c.number (moments app c.number h) c.received (map (λ (w : Waiting). w.message) c.queue) c.items c.sent c.outbox
  pub begun : IsBegun app c.number h c.items
  pub refusal : IsRefusal (moments app c.number h) (runs_of app c.number h) c.kept (state_in c).blocking
