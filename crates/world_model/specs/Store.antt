-- The store of an application, and what a session sees of it at each moment.
use Rattle.std.specs.Prelude.{ℕ, List, [], ◌∷◌}
use Rattle.app_model.specs.App.{App}
use Rattle.history_model.specs.declared.entry.Entry.{Entry}
pub use Rattle.ejson_value.specs.Code.{held as value_of}
pub use Rattle.history_model.specs.Programs.{programs}
use Rattle.history_model.specs.History.{Held, nothing, carried, held, status_in, is_full}
use Rattle.session_model.specs.Moments.{Moment}

-- what a history leads to
abbrev pub held_in : App → List Entry → Held
held_in app history = held (programs app) history

-- what the session of this number sees of it
abbrev pub moment_of : App → ℕ → Held → Moment
moment_of app number h = record {
  rows = h.rows;
  run = λ k. status_in h number k;
  is_full = λ name params seed. is_full (programs app) h name params seed;
}

abbrev pub moments_from : App → ℕ → Held → List Entry → List Moment
moments_from app number h [] = moment_of app number h ∷ []
moments_from app number h (e ∷ es) = moment_of app number h ∷ moments_from app number (carried (programs app) h e) es

-- the moments of a history: the one before its first entry, and one after each
abbrev pub moments : App → ℕ → List Entry → List Moment
moments app number history = moments_from app number nothing history
