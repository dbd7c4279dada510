-- What an event does to a world, and what a list of events leads to.
use Rattle.std.specs.Prelude.{ℕ, ℤ, pos, negsuc, suc, ◌-◌, ◌≡◌, List, [], ◌∷◌, ◌++◌, length, Option, Some, None, Ok, Err, option_map, option_and_then}
use Rattle.std.specs.Prelude.{if◌then◌else◌}
use Rattle.value_model.specs.Val.{Val, vals_of}
use Rattle.value_model.specs.Valid.{AreValues}
use Rattle.ddp_messages.specs.Limits.{AreShallow}
use Rattle.collection_store.specs.declared.operation.Op.{Op}
use Rattle.collection_store.specs.Outcome.{Outcome, code_of}
use Rattle.collection_store.specs.Applied.{Applied, applied}
use Rattle.history_model.specs.declared.entry.Entry.{Entry}
use Rattle.history_model.specs.declared.entry.Entry.TheVariants as entry
use Rattle.history_model.specs.Operations.{operation_in}
use Rattle.history_model.specs.History.{room_in, is_full_for_operation}
use Rattle.session_model.specs.Subscriptions.{sub_named, cursor_of}
use Rattle.world_model.specs.declared.events.Act.{Act}
use Rattle.world_model.specs.declared.events.Act.TheVariants as act
use Rattle.world_model.specs.declared.events.Event.{Event}
use Rattle.world_model.specs.declared.events.Event.TheVariants as event
use Rattle.world_model.specs.Store.{held_in}
use Rattle.world_model.specs.Conn.{Conn, state_in}
use Rattle.world_model.specs.Asks as ask
use Rattle.world_model.specs.World.{World, start, conn_of, opens, done, asked_in}
use Rattle.world_model.specs.Settle.{settled}

-- ---- the acts that events name

abbrev pub number_of : ℤ → Option ℕ
number_of (pos n) = Some n
number_of (negsuc n) = None

-- a place of the history, its end where none is named; a number below 0 is none, as are those past the end
abbrev pub place_in : List Entry → Option ℤ → ℕ
place_in history None = length history
place_in history (Some (pos n)) = n
place_in history (Some (negsuc n)) = suc (length history)

abbrev pub count_from : ℕ → Option ℕ → ℕ
count_from entries None = 0
count_from entries (Some cursor) = entries - cursor

-- how many entries a subscription is to go on, those to the end where no number is named
abbrev pub count_in : List Entry → Option ℕ → Option ℤ → ℕ
count_in history cursor None = count_from (length history) cursor
count_in history cursor (Some (pos n)) = n
count_in history cursor (Some (negsuc n)) = 0

-- the act of a client and its session that an event names, if it names one
abbrev pub act_in : List Entry → Conn → Event → Option Act
act_in history c (event.Do name a) = Some a
act_in history c (event.Step name k) = option_map act.Step (number_of k)
act_in history c (event.Learn name k place) = option_map (λ n. act.Learn n (place_in history place)) (number_of k)
act_in history c (event.Load name id place) = option_map (λ s. act.Load s (place_in history place)) (sub_named id (state_in c).subs)
act_in history c (event.Advance name id count) =
    option_map (λ s. act.Advance s (count_in history (cursor_of s (state_in c).subs) count)) (sub_named id (state_in c).subs)
act_in history c e = None

-- the same of the client of this name
abbrev pub act_by : World → List ℕ → Event → Option Act
act_by w name e = option_and_then (λ (c : Conn). act_in w.history c e) (conn_of w name)

abbrev pub done_if : World → List ℕ → Option Act → World
done_if w name None = w
done_if w name (Some a) = done (name, a) w

abbrev pub acts : World → List ℕ → Event → World
acts w name e = done_if w name (act_by w name e)

-- ---- an administrator's operation

abbrev pub applied_in : World → Op → Outcome Applied
applied_in w op = let h = held_in w.app w.history in applied w.app.collections h.rows op (room_in h)

-- 503 where the history is full, then 400 where it is no operation, then what the store answers
abbrev pub by_answer : Outcome Applied → Option ℕ
by_answer (Ok applied) = None
by_answer (Err refusal) = code_of refusal

abbrev pub by_operation : World → Option Op → Option ℕ
by_operation w None = Some 400
by_operation w (Some op) = by_answer (applied_in w op)

abbrev pub refusal_of : World → List Val → Option ℕ
refusal_of w op = if is_full_for_operation (held_in w.app w.history) then Some 503 else by_operation w (operation_in op)

abbrev pub entered_by : World → List Val → Option ℕ → World
entered_by w op None = record w { history = w.history ++ entry.Admin op ∷ [] }
entered_by w op (Some code) = w

-- an operation that isn't refused is an entry
abbrev pub administers : World → List Val → World
administers w op = entered_by w op (refusal_of w op)

-- ---- every event

abbrev pub step : World → Event → World
step w (event.Client name) = opens w name
step w (event.Sub name id publication params) = asked_in name (ask.subscribe id publication params) w
step w (event.Unsub name id) = asked_in name (ask.unsubscribe id) w
step w (event.Call name method params) = asked_in name (ask.call method params) w
step w (event.Raw name t) = asked_in name (ask.raw t) w
step w (event.Drop name) = asked_in name ask.drop w
step w (event.Do name a) = acts w name (event.Do name a)
step w (event.Step name k) = acts w name (event.Step name k)
step w (event.Learn name k place) = acts w name (event.Learn name k place)
step w (event.Load name id place) = acts w name (event.Load name id place)
step w (event.Advance name id count) = acts w name (event.Advance name id count)
step w (event.Admin op) = administers w op
step w event.Settle = settled w
step w (event.Show name) = w
step w (event.Journal name) = w
step w event.Store = w
step w event.History = w

-- the world after these events
abbrev pub run : World → List Event → World
run w [] = w
run w (e ∷ events) = run (step w e) events

-- what is handed in are values of the program, each of at most 32 levels
abbrev pub IsEvent : Event → Type 0
IsEvent (event.Sub name id publication params) = AreValues (vals_of params) × AreShallow params
IsEvent (event.Call name method params) = AreValues (vals_of params) × AreShallow params
IsEvent (event.Admin op) = AreValues (vals_of op) × AreShallow op
IsEvent e = Unit {0}

abbrev pub AreEvents : List Event → Type 0
AreEvents [] = Unit {0}
AreEvents (e ∷ events) = IsEvent e × AreEvents events

-- some list of events leads here from the application's beginning
abbrev pub Reachable : World → Type 0
Reachable w = (events : List Event) × AreEvents events × (run (start w.app) events ≡ w)
