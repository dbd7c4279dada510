-- What a revived client's history comes to.
use Rattle.std.specs.Prelude.{ℕ, List, [], ◌∷◌, ◌++◌, option_to_list}
use Rattle.reconnect_model.specs.Revival.{Revival, new_revival}
use Rattle.reconnect_model.specs.Saying.{queues, loses, says, first_of, connect_text, sub_texts, call_texts}
use Rattle.reconnect_model.specs.Giving.{hears}

-- the client queued a text, its server sent one, the first text that waited was said, and the link was lost
pub data Event : Type 0 where
  queued : List ℕ → Event
  heard : List ℕ → Event
  said : Event
  lost : Event

-- what happened so far, the latest first
abbrev pub History : Type 0
History = List Event

abbrev pub revival_of : History → Revival
revival_of [] = new_revival
revival_of (queued text ∷ past) = queues (revival_of past) text
revival_of (heard text ∷ past) = (hears (revival_of past) text).revival
revival_of (said ∷ past) = says (revival_of past)
revival_of (lost ∷ past) = loses (revival_of past)

-- the texts that the client was given
abbrev pub given_in : History → List (List ℕ)
given_in [] = []
given_in (heard text ∷ past) = given_in past ++ (hears (revival_of past) text).texts
given_in (_ ∷ past) = given_in past

-- the texts said since the last loss
abbrev pub said_in : History → List (List ℕ)
said_in [] = []
said_in (said ∷ past) = said_in past ++ option_to_list (first_of (revival_of past).waiting)
said_in (lost ∷ past) = []
said_in (_ ∷ past) = said_in past

-- the texts that were to be said since then: `connect`, what is wanted and owed, and what the client queued
abbrev pub to_say : History → List (List ℕ)
to_say [] = []
to_say (queued text ∷ past) = to_say past ++ text ∷ []
to_say (lost ∷ past) = connect_text ∷ sub_texts (revival_of past).subs ++ call_texts (revival_of past).calls
to_say (_ ∷ past) = to_say past
