-- What comes of a text at once, as the journal reads it.
use Rattle.std.specs.Prelude.{◌≡◌, true}
use Rattle.session_model.specs.Taking.{Taken, at_once, to_queue}
use Rattle.session_model.specs.Answering.{is_at_once}
use Rattle.session_laws.specs.Meaning.{is_request}

-- ---- what is answered at once is such an item, and what waits such a message

abbrev pub IsOnce : Taken → Type 0
IsOnce (at_once i) = is_at_once i ≡ true
IsOnce (to_queue message) = is_request message ≡ true

-- ---- a session that isn't connected lets no message wait

abbrev pub IsNever : Taken → Type 0
IsNever (at_once i) = Unit {0}
IsNever (to_queue message) = ⊥
