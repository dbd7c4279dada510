-- The lines of a session's journal.
use Rattle.std.specs.Prelude.{ℕ, List, [], ◌∷◌, Option}
use Rattle.session_core.specs.session_journal_laws.declared.stored.Stored.{Stored}
use Rattle.session_state.specs.declared.journal.Line.{Line}
use Rattle.session_core.specs.session_laws.Session.{ASession}

-- each item with the id that a print of it shows, if it shows one
abbrev pub lines_with : List Stored → List (Option (List ℕ)) → List Line
lines_with [] ids = []
lines_with (i ∷ items) [] = []
lines_with (i ∷ items) (id ∷ ids) = record { item = i; id = id } ∷ lines_with items ids

abbrev pub lines_of : ASession → List Line
lines_of s = lines_with s.carried.journal s.ids
