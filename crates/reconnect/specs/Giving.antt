-- How texts are given one after another.
use Rattle.std.specs.Prelude.{◌≡◌, ◌++◌, ℕ, List, [], ◌∷◌, map, None}
use Rattle.std.specs.Map.{keys_of}
use Rattle.ddp_messages.specs.ServerMessage as server
use Rattle.ddp_messages.specs.ServerMessage.{ServerMessage}
use Rattle.reconnect_model.specs.Revival.{Revival, Lacking}
use Rattle.reconnect_model.specs.Saying.{owed}
use Rattle.ddp_messages.specs.Texts.{server_text}
use Rattle.reconnect_model.specs.Giving.{Heard, all_settled, left_unsaid, made_ready, released, updated_before}

-- these texts are given behind those that were, and this is left
abbrev pub Gives : Heard → Revival → List (List ℕ) → List (List ℕ) → Type 0
Gives h new before after = (new ≡ h.revival) × (after ≡ before ++ h.texts)

abbrev pub updates_of : List (List ℕ) → List ServerMessage
updates_of ids = map (λ id. server.updated (id ∷ [])) ids

abbrev pub ends_of : List (List ℕ) → List ServerMessage
ends_of ids = map (λ id. server.nosub id None) ids

-- what the session after a loss lacks
abbrev pub lacks_again : Revival → Lacking
lacks_again r = record { subs = keys_of r.subs; results = keys_of (owed r.calls); updates = keys_of (owed r.calls) }

-- what is given behind the difference of the documents
abbrev pub rest_of : Revival → Heard
rest_of r =
    let rest = released (updated_before r.calls) (all_settled (made_ready r) (left_unsaid r)) r.held in
    record { revival = rest.revival; texts = map server_text (left_unsaid r) ++ rest.texts }
