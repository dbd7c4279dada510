-- The log of a history: each entry with the changes that it makes where it stands.
use Rattle.std.specs.Prelude.{List, [], ◌∷◌}
use Rattle.history_model.specs.declared.entry.Entry.{Entry}
use Rattle.history_model.specs.History.{Programs, Held, nothing, carried, changes_by}
use Rattle.history_log.specs.declared.log.Logged.{Logged}

abbrev pub logged_from : Programs → Held → List Entry → List Logged
logged_from app h [] = []
logged_from app h (e ∷ es) = record { entry = e; changes = changes_by app h e } ∷ logged_from app (carried app h e) es

abbrev pub log_of : Programs → List Entry → List Logged
log_of app history = logged_from app nothing history
