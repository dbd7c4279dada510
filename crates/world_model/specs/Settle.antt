-- A world settles: the acts of its clients, sessions and runs are made in rounds until none is left.
use Rattle.std.specs.Prelude.{ℕ, suc, ◌+◌, ◌-◌, ◌*◌, ◌==◌, List, [], ◌∷◌, ◌++◌, length, map, replicate, sum_by, Bool, is_some, is_none, Option, Some}
use Rattle.std.specs.Prelude.{None, if◌then◌else◌}
use Rattle.std.specs.Map.{keys_of}
use Rattle.app_model.specs.App.{App}
use Rattle.history_model.specs.declared.entry.Entry.{Entry}
use Rattle.history_model.specs.History.{Runs, reserved}
use Rattle.session_model.specs.Subscriptions.{Live}
use Rattle.session_model.specs.Methods.{Method}
use Rattle.session_model.specs.Counting.{is_running, one_if}
use Rattle.rounds_model.specs.Tower.{tower}
use Rattle.rounds_model.specs.Rounds as rounds
use Rattle.world_model.specs.declared.events.Act.{Act}
use Rattle.world_model.specs.declared.events.Act.TheVariants as act
use Rattle.world_model.specs.Store.{held_in}
use Rattle.world_model.specs.Conn.{Conn, state_in}
use Rattle.world_model.specs.Acts.{unbegun}
use Rattle.world_model.specs.World.{World, Conns, conn_of, done, can_in}

-- ---- the phases of a round: for each client the acts of a kind, as often as there may be something for them

-- the steps that the session's runs have left, the least run first
abbrev pub steps_of : ℕ → Runs → List Act
steps_of number [] = []
steps_of number (r ∷ runs) = if number == r.0.0 then replicate (length r.1.run.left) (act.Step r.0.1) ++ steps_of number runs else steps_of number runs

-- the numbers of the calls that run, the first one's being k
abbrev pub running_from : ℕ → List Method → List ℕ
running_from k [] = []
running_from k (m ∷ ms) = if is_running m.phase then k ∷ running_from (suc k) ms else running_from (suc k) ms

abbrev pub load_at : ℕ → Live → List Act
load_at entries l = if is_none l.cursor then act.Load l.sub entries ∷ [] else []

abbrev pub loads : ℕ → List Live → List Act
loads entries [] = []
loads entries (l ∷ ls) = load_at entries l ++ loads entries ls

abbrev pub advance_to : ℕ → ℕ → Option ℕ → List Act
advance_to entries sub None = []
advance_to entries sub (Some cursor) = act.Advance sub (entries - cursor) ∷ []

abbrev pub advances : ℕ → List Live → List Act
advances entries [] = []
advances entries (l ∷ ls) = advance_to entries l.sub l.cursor ++ advances entries ls

pub data Phase : Type 0 where
  ups recvs handles begins steps learns loadings advancings sendings takings : Phase

abbrev pub acts_of : App → List Entry → Conn → Phase → List Act
acts_of app history c ups = replicate (length c.client.waiting) act.Up
acts_of app history c recvs = replicate (length c.upward) act.Recv
acts_of app history c handles = replicate (length c.queue) act.Handle
acts_of app history c begins = act.Begin ∷ []
acts_of app history c steps = steps_of c.number (held_in app history).runs
acts_of app history c learns = map (λ k. act.Learn k (length history)) (running_from 0 (state_in c).methods)
acts_of app history c loadings = loads (length history) (state_in c).subs
acts_of app history c advancings = advances (length history) (state_in c).subs
acts_of app history c sendings = replicate (length c.outbox) act.Send
acts_of app history c takings = replicate (length c.downward) act.Take

abbrev pub acts_by : World → Phase → Option Conn → List Act
acts_by w p None = []
acts_by w p (Some c) = acts_of w.app w.history c p

-- a phase of the client of this name
abbrev pub phase : List ℕ → Phase → World → List (List ℕ × Act)
phase name p w = map (λ a. (name, a)) (acts_by w p (conn_of w name))

abbrev pub order : List Phase
order = ups ∷ recvs ∷ handles ∷ begins ∷ steps ∷ learns ∷ loadings ∷ advancings ∷ sendings ∷ takings ∷ []

abbrev pub phases_of : List (List ℕ) → List (World → List (List ℕ × Act))
phases_of [] = []
phases_of (name ∷ names) = map (phase name) order ++ phases_of names

-- the clients by name, each with its phases in order
abbrev pub phases : World → List (World → List (List ℕ × Act))
phases w = phases_of (keys_of w.conns)

abbrev pub round : World → World
round w = rounds.through done (phases w) w

-- none of the acts is enabled that a round makes
abbrev pub is_stuck : World → Bool
is_stuck w = rounds.none_in can_in (phases w) w

-- ---- how much there is to do

abbrev pub sum_present : (Conn → ℕ) → Conns → ℕ
sum_present f conns = sum_by (λ (e : List ℕ × Conn). if e.1.is_dropped then 0 else f e.1) conns

-- of texts that are to be sent and taken
abbrev pub texts_in : Conn → ℕ
texts_in c = 2 * length c.outbox + length c.downward

abbrev pub texts : World → ℕ
texts w = sum_present texts_in w.conns

-- of subscriptions that are to be loaded and led on
abbrev pub cursor_left : ℕ → Option ℕ → ℕ
cursor_left entries None = suc entries
cursor_left entries (Some cursor) = entries - cursor

abbrev pub cursors_in : ℕ → Conn → ℕ
cursors_in entries c = sum_by (λ (l : Live). cursor_left entries l.cursor) (state_in c).subs

abbrev pub cursors : World → ℕ
cursors w = sum_present (cursors_in (length w.history)) w.conns

-- of calls that are to be learnt of: a call that blocks may be learnt of twice
abbrev pub learns_in : Conn → ℕ
learns_in c = sum_by (λ (m : Method). one_if (is_running m.phase)) (state_in c).methods + one_if (is_some (state_in c).blocking)

abbrev pub all_learns : World → ℕ
all_learns w = sum_present learns_in w.conns

-- of steps, those of clients that are gone among them
abbrev pub all_steps : World → ℕ
all_steps w = reserved (held_in w.app w.history).runs

-- of calls that are to be begun
abbrev pub calls_in : App → List Entry → Conn → ℕ
calls_in app history c = one_if (is_some (unbegun app history c))

abbrev pub calls : World → ℕ
calls w = sum_present (calls_in w.app w.history) w.conns

-- of what clients ask for
abbrev pub asks_in : Conn → ℕ
asks_in c = 3 * length c.client.waiting + 2 * length c.upward + length c.queue

abbrev pub asks : World → ℕ
asks w = sum_present asks_in w.conns

-- what an act does is less by one of them, and all that stand behind it are the same
abbrev pub measures : List (World → ℕ)
measures = texts ∷ cursors ∷ all_learns ∷ all_steps ∷ calls ∷ asks ∷ []

-- The settled world: rounds are made until none of their acts is enabled. However many rounds that takes, this is the world that they lead to
abbrev pub settled : World → World
settled w = tower round measures w
