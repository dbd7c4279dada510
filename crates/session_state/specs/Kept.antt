-- What a `Journal` keeps.
use Rattle.std.specs.Prelude.{◌≡◌, ℕ, zero, suc, ◌<◌, ◌≤◌, List, [], ◌∷◌, ◌++◌, map, length, Bool, false, IsTrue, if◌then◌else◌}
use Rattle.std.specs.Vec.{vec_len, vec_capacity}
use Rattle.session_state.specs.declared.journal.Line.{Line}
use Rattle.session_state.specs.declared.journal.Record.{Record}
use Rattle.session_state.specs.declared.journal.Journal.TheInside.{Inside}
use Rattle.session_state.specs.Journal.{AJournal, Run, max_items, is_run, runs}

abbrev pub as_run : Record → Run
as_run r = (r.line, r.count)

abbrev pub repeated : ℕ → Line → List Line
repeated zero l = []
repeated (suc n) l = l ∷ repeated n l

abbrev pub expanded : List Record → List Line
expanded [] = []
expanded (r ∷ records) = repeated r.count r.line ++ expanded records

abbrev pub journal_of : Inside → AJournal
journal_of a = record { lines = expanded a.records.items; counts = a.counts.items; has_room = a.has_room }

-- each record is a whole run, each item has its count, and the room that is promised is there
pub record IsKept (a : Inside) : Type 0 where
  pub whole : map as_run a.records.items ≡ runs (expanded a.records.items)
  pub counted : length a.counts.items ≡ length (expanded a.records.items)
  pub within : length (expanded a.records.items) ≤ max_items
  pub room : IsTrue a.has_room → (vec_len a.records < vec_capacity a.records) × (vec_len a.counts < vec_capacity a.counts)

-- ---- one item more

-- the last run goes on with it
abbrev pub goes_on : List Run → Line → Bool
goes_on [] m = false
goes_on (r ∷ []) m = is_run r.0 m
goes_on (r ∷ s ∷ rs) m = goes_on (s ∷ rs) m

abbrev pub put_behind : List Run → Line → List Run
put_behind [] m = (m, 1) ∷ []
put_behind (r ∷ []) m = if is_run r.0 m then (r.0, suc r.1) ∷ [] else r ∷ (m, 1) ∷ []
put_behind (r ∷ s ∷ rs) m = r ∷ put_behind (s ∷ rs) m

-- the last record stands for one more
abbrev pub counted_on : List Record → List Record
counted_on [] = []
counted_on (r ∷ []) = record r { count = suc r.count } ∷ []
counted_on (r ∷ s ∷ rs) = r ∷ counted_on (s ∷ rs)
