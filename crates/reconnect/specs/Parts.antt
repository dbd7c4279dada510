-- What is asked for by a text, part by part.
use Rattle.std.specs.Prelude.{ℕ, List, Option, Some, None}
use Rattle.map_model.specs.Maps.{set}
use Rattle.value_model.specs.Order.{text_cmp}
use Rattle.ddp_messages.specs.ClientMessage as client
use Rattle.ddp_messages.specs.ClientMessage.{ClientMessage}
use Rattle.reconnect_model.specs.Revival.{Wanted, Called}
use Rattle.reconnect_model.specs.Saying.{entered, called}
use Rattle.reconnect_parts.specs.Asking.{Asked}

abbrev pub parts_of : List (List ℕ × Wanted) → List (List ℕ × ℕ) → List (List ℕ × Called) → Asked
parts_of subs ended calls = record { subs = subs; ended = ended; calls = calls }

-- once the message was queued behind so many texts
abbrev pub asked_parts : ℕ → List ℕ → Option ClientMessage → Asked → Asked
asked_parts place text (Some (client.sub id name params)) a = record a { subs = entered a.subs id (record { place = place; text = text }) }
asked_parts place text (Some (client.unsub id)) a = record a { subs = set text_cmp a.subs id None; ended = entered a.ended id place }
asked_parts place text (Some (client.method id name params seed)) a = record a { calls = entered a.calls id (called place text) }
asked_parts place text _ a = a
