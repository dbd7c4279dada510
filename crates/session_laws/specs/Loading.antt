-- What becomes of subscriptions and their observers as one is loaded or goes on.
use Rattle.std.specs.Prelude.{◌≡◌, ℕ, List, [], Option, Some, None}
use Rattle.publication.specs.Cursors.{ACursors}
use Rattle.live_observer.specs.Observing.{AnObserver, cursors_of, StandsAt}
use Rattle.session_model.specs.Subscriptions.{Live, of_sub}
use Rattle.session_model.specs.Moments.{Moment, rows_at}

abbrev pub cursors_in : ℕ → List Live → ACursors
cursors_in s ls = of_sub (λ (l : Live). l.cursors) [] s ls

-- ---- their observers

-- one of these cursors stands at the documents of the place
abbrev pub IsWatchingAt : List Moment → ACursors → ℕ → Option AnObserver → Type 0
IsWatchingAt C cursors place None = ⊥
IsWatchingAt C cursors place (Some o) = (cursors_of o ≡ cursors) × StandsAt o (rows_at C place)
