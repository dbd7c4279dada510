-- What a message says of a document.
use Rattle.std.specs.Prelude.{◌≡◌, ℕ, List, Option, option_map}
use Rattle.map_model.specs.Differences.{Step}
use Rattle.value_model.specs.Val.{Val}
use Rattle.ejson_value.specs.declared.key.Key.{Key}
use Rattle.ejson_value.specs.declared.message.DataMsg.{DataMsg}
use Rattle.ejson_value.specs.Messages.{said}

-- the message, if there is one, says this step of the document at the key; where there is no step there is none
abbrev pub Says : Key → Option (Step (List ℕ) Val) → Option DataMsg → Type 0
Says key step message = option_map said message ≡ option_map (λ (s : Step (List ℕ) Val). (key, s)) step
