-- What a session tells of its limits, and what an advance looks at.
use Rattle.std.specs.Prelude.{ℕ, length, Bool, ◌||◌, Option, None, Some}
use Rattle.session_core.specs.live_observer.Observing.{AnObserver}
use Rattle.session_core.specs.session_state.Calls.{has_refused}
use Rattle.session_core.specs.session_laws.Session.{ASession, is_full}

-- the journal is full, or the history had no room for some call
abbrev pub is_limited : ASession → Bool
is_limited s = is_full s || has_refused s.carried.own.methods

-- how many cursors are observed
abbrev pub watched_count : Option AnObserver → ℕ
watched_count None = 0
watched_count (Some observer) = length observer
