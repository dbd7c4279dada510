-- The event that a line describes.
use Rattle.std.specs.Prelude.{ℕ, ℤ, List, Option, Some, None, option_and_then, option_map, if◌then◌else◌, codes}
use Rattle.value_model.specs.Val.{Val, int, list, Vals, no_vals, val}
use Rattle.value_model.specs.Size.{is_name}
use Rattle.line_parts.specs.Parts.{text_first, is_nil, text_alone, texts_alone, params_in}
use Rattle.world_model.specs.declared.events.Act.{Act}
use Rattle.world_model.specs.declared.events.Act.TheVariants as act
use Rattle.world_model.specs.declared.events.Event.{Event}
use Rattle.world_model.specs.declared.events.Event.TheVariants as event

-- the whole number that stands first, and what follows it
abbrev pub number_first : Vals → Option (ℤ × Vals)
number_first (val (int z) vs) = Some (z, vs)
number_first _ = None

-- `["admin",operation]`, after the word: any list of such values
abbrev pub admin_in : Vals → Option Event
admin_in vs = if is_nil vs then None else option_map event.Admin (params_in vs)

-- `["sub",client,id,name]` and `["sub",client,id,name,parameters]`, after the word
abbrev pub sub_with : List ℕ → List ℕ → List ℕ → Vals → Option Event
sub_with who id name params = option_map (event.Sub who id name) (params_in params)

abbrev pub sub_in : Vals → Option Event
sub_in vs =
    option_and_then (λ who.
    option_and_then (λ id.
    option_and_then (λ name. sub_with who.0 id.0 name.0 name.1) (text_first id.1))
    (text_first who.1))
    (text_first vs)

-- `["call",client,method]` and `["call",client,method,parameters]`
abbrev pub call_with : List ℕ → List ℕ → Vals → Option Event
call_with who method params = option_map (event.Call who method) (params_in params)

abbrev pub call_in : Vals → Option Event
call_in vs =
    option_and_then (λ who.
    option_and_then (λ method. call_with who.0 method.0 method.1) (text_first who.1))
    (text_first vs)

-- `["unsub",client,id]` and `["raw",client,text]`
abbrev pub unsub_in : Vals → Option Event
unsub_in vs = option_map (λ both. event.Unsub both.0 both.1) (texts_alone vs)

abbrev pub raw_in : Vals → Option Event
raw_in vs = option_map (λ both. event.Raw both.0 both.1) (texts_alone vs)

-- a whole number that stands alone, or nothing
abbrev pub number_in : Vals → Option (Option ℤ)
number_in no_vals = Some None
number_in (val (int z) rest) = if is_nil rest then Some (Some z) else None
number_in _ = None

-- a client, an id and perhaps a whole number
abbrev pub placed_in : Vals → Option (List ℕ × List ℕ × Option ℤ)
placed_in vs =
    option_and_then (λ who.
    option_and_then (λ id.
    option_map (λ number. (who.0, id.0, number)) (number_in id.1))
    (text_first who.1))
    (text_first vs)

-- `["load",client,id]` and `["load",client,id,place]`; `["advance",client,id]` and `["advance",client,id,count]`
abbrev pub load_at : List ℕ × List ℕ × Option ℤ → Event
load_at p = event.Load p.0 p.1 p.2

abbrev pub advance_by : List ℕ × List ℕ × Option ℤ → Event
advance_by p = event.Advance p.0 p.1 p.2

-- a client, the number of a call and what follows them
abbrev pub called_in : Vals → Option (List ℕ × ℤ × Vals)
called_in vs = option_and_then (λ who. option_map (λ k. (who.0, k.0, k.1)) (number_first who.1)) (text_first vs)

-- `["step",client,call]`; `["learn",client,call]` and `["learn",client,call,place]`
abbrev pub run_step_in : Vals → Option Event
run_step_in vs = option_and_then (λ called. if is_nil called.2 then Some (event.Step called.0 called.1) else None) (called_in vs)

abbrev pub learn_in : Vals → Option Event
learn_in vs = option_and_then (λ called. option_map (event.Learn called.0 called.1) (number_in called.2)) (called_in vs)

-- the act that a word names
abbrev pub act_of : List ℕ → Option Act
act_of word =
    if is_name word (codes "up") then Some act.Up
    else if is_name word (codes "recv") then Some act.Recv
    else if is_name word (codes "handle") then Some act.Handle
    else if is_name word (codes "begin") then Some act.Begin
    else if is_name word (codes "send") then Some act.Send
    else if is_name word (codes "take") then Some act.Take
    else None

-- `[word,client]` for an act
abbrev pub step_in : List ℕ → Vals → Option Event
step_in word vs = option_and_then (λ a. option_map (λ who. event.Do who a) (text_alone vs)) (act_of word)

-- what is asked of a client, and acts that name it alone
abbrev pub asked_in : List ℕ → Vals → Option Event
asked_in word vs =
    if is_name word (codes "client") then option_map event.Client (text_alone vs)
    else if is_name word (codes "sub") then sub_in vs
    else if is_name word (codes "unsub") then unsub_in vs
    else if is_name word (codes "call") then call_in vs
    else if is_name word (codes "raw") then raw_in vs
    else if is_name word (codes "drop") then option_map event.Drop (text_alone vs)
    else step_in word vs

-- acts that name a run or a place of the history
abbrev pub placed_row : List ℕ → Vals → Option Event
placed_row word vs =
    if is_name word (codes "step") then run_step_in vs
    else if is_name word (codes "learn") then learn_in vs
    else if is_name word (codes "load") then option_map load_at (placed_in vs)
    else if is_name word (codes "advance") then option_map advance_by (placed_in vs)
    else asked_in word vs

-- The event of this word and what follows it. An administrator's operation may be any list.
abbrev pub row_in : List ℕ → Vals → Option Event
row_in word vs =
    if is_name word (codes "admin") then admin_in vs
    else if is_name word (codes "settle") then (if is_nil vs then Some event.Settle else None)
    else if is_name word (codes "show") then option_map event.Show (text_alone vs)
    else if is_name word (codes "journal") then option_map event.Journal (text_alone vs)
    else if is_name word (codes "store") then (if is_nil vs then Some event.Store else None)
    else if is_name word (codes "history") then (if is_nil vs then Some event.History else None)
    else placed_row word vs

-- the event of a line
abbrev pub event_in : Val → Option Event
event_in (list vs) = option_and_then (λ first. row_in first.0 first.1) (text_first vs)
event_in _ = None
