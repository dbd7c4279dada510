-- What a revived client says: the texts that the client queues, and after a loss what the new session is asked for again.
use Rattle.std.specs.Prelude.{ℕ, suc, List, [], ◌∷◌, ◌++◌, map, filter, false, not, Option, Some, None, is_some, Result, Ok, Err, codes, if◌then◌else◌}
use Rattle.std.specs.Ordering.{nat_cmp}
use Rattle.std.specs.Map.{keys_of}
use Rattle.std.specs.BTreeMap.{insert_entry}
use Rattle.map_model.specs.Maps.{at, set}
use Rattle.value_model.specs.Order.{text_cmp}
use Rattle.ddp_messages.specs.Answers.{client_answer}
use Rattle.ddp_messages.specs.declared.fault.MsgFault.{MsgFault}
use Rattle.ddp_messages.specs.ClientMessage as client
use Rattle.ddp_messages.specs.ClientMessage.{ClientMessage}
use Rattle.ddp_messages.specs.Texts.{client_text}
use Rattle.reconnect_model.specs.Revival.{Wanted, Called, Revival}

-- ---- what the client queues

-- with x at the id, unless something is there
abbrev pub entered : {X : Type 0} → List (List ℕ × X) → List ℕ → X → List (List ℕ × X)
entered m id x = if is_some (at text_cmp m id) then m else set text_cmp m id (Some x)

abbrev pub called : ℕ → List ℕ → Called
called place text = record { place = place; text = text; is_answered = false; is_updated = false }

-- a `sub` is wanted until its `unsub`, a method is owed
abbrev pub asked : Revival → List ℕ → ClientMessage → Revival
asked r text (client.sub id name params) = record r { subs = entered r.subs id (record { place = r.queued; text = text }) }
asked r text (client.unsub id) = record r { subs = set text_cmp r.subs id None; ended = entered r.ended id r.queued }
asked r text (client.method id name params seed) = record r { calls = entered r.calls id (called r.queued text) }
asked r text _ = r

-- a text that is no message is no `sub`, `unsub` or method
abbrev pub asked_by : Revival → List ℕ → Result ClientMessage MsgFault → Revival
asked_by r text (Ok m) = asked r text m
asked_by r text (Err fault) = r

-- each text waits to be said
abbrev pub said_too : Revival → List ℕ → Revival
said_too r text = record r { queued = suc r.queued; waiting = r.waiting ++ text ∷ [] }

-- the client queues a text
abbrev pub queues : Revival → List ℕ → Revival
queues r text = said_too (asked_by r text (client_answer text)) text

-- ---- a loss

-- the texts by their places
abbrev pub placed : List (ℕ × List ℕ) → List (ℕ × List ℕ) → List (ℕ × List ℕ)
placed m [] = m
placed m (e ∷ entries) = placed (insert_entry nat_cmp m e.0 e.1) entries

abbrev pub in_order : List (ℕ × List ℕ) → List (List ℕ)
in_order entries = map (λ e. e.1) (placed [] entries)

-- the wanted subscriptions' texts, in the order queued
abbrev pub sub_texts : List (List ℕ × Wanted) → List (List ℕ)
sub_texts subs = in_order (map (λ e. (e.1.place, e.1.text)) subs)

-- the methods without a result
abbrev pub owed : List (List ℕ × Called) → List (List ℕ × Called)
owed calls = filter (λ e. not e.1.is_answered) calls

-- their texts, in the order queued, which is that of their numbers
abbrev pub call_texts : List (List ℕ × Called) → List (List ℕ)
call_texts calls = in_order (map (λ e. (e.1.place, e.1.text)) (owed calls))

abbrev pub connect_text : List ℕ
connect_text = client_text (client.connect (codes "1") (Some (codes "1" ∷ [])))

-- The link is lost. What was not said is dropped, what is wanted and owed is said again, and what the old session sent is forgotten.
abbrev pub loses : Revival → Revival
loses r = record r {
  begun = r.queued;
  waiting = connect_text ∷ sub_texts r.subs ++ call_texts r.calls;
  copy = [];
  is_connected = false;
  lacking = record { subs = keys_of r.subs; results = keys_of (owed r.calls); updates = keys_of (owed r.calls) };
  is_revived = false;
  held = [];
}

-- ---- the next text is said

abbrev pub first_of : List (List ℕ) → Option (List ℕ)
first_of [] = None
first_of (text ∷ texts) = Some text

abbrev pub behind_first : List (List ℕ) → List (List ℕ)
behind_first [] = []
behind_first (text ∷ texts) = texts

abbrev pub says : Revival → Revival
says r = record r { waiting = behind_first r.waiting }
