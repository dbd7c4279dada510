-- What one more item makes of a session.
use Rattle.std.specs.Prelude.{◌≡◌, ℕ, List, [], ◌∷◌, ◌++◌, map, Option}
use Rattle.merge_model.specs.Publishing.{Call}
use Rattle.value_model.specs.Val.{Entries}
use Rattle.ejson_value.specs.declared.key.Key.{Key}
use Rattle.ddp_messages.specs.ServerMessage.{ServerMessage}
use Rattle.ddp_messages.specs.Texts.{server_text}
use Rattle.session_model.specs.State.{State}
use Rattle.session_journal_laws.specs.declared.stored.Stored.{Stored}
use Rattle.session_journal_laws.specs.Stands.{IsAdded}
use Rattle.session_laws.specs.Session.{ASession}

-- The item stands behind the journal; the data of what is shown otherwise, the item's words, and an `updated` for each call whose fence is open then
-- stand behind the outbox. What else a session has
-- is said where the item is made
pub record HasAdded (item : Stored) (id : Option (List ℕ)) (call : Call Key Entries) (state : State) (words : List ServerMessage)
    (old new : ASession) : Type 0 where
  pub added : IsAdded item call state words old.carried new.carried
  pub ids : new.ids ≡ old.ids ++ id ∷ []
  pub dropped : new.dropped ≡ old.dropped

-- the same, where the item's words are these texts
abbrev pub HasAddedTexts : Stored → Option (List ℕ) → Call Key Entries → State → List (List ℕ) → ASession → ASession → Type 0
HasAddedTexts item id call state texts old new = (words : List ServerMessage) → texts ≡ map server_text words → HasAdded item id call state words old new
