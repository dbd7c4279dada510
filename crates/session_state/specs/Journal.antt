-- The journal of a session as it is kept.
use Rattle.std.specs.Prelude.{ℕ, suc, ◌==◌, List, [], ◌∷◌, ◌++◌, map, Bool, true, false, ◌&&◌, is_none, if◌then◌else◌}
use Rattle.session_journal_laws.specs.declared.stored.Stored.{Stored}
use Rattle.session_journal_laws.specs.declared.stored.Stored.TheVariants as stored
use Rattle.session_state.specs.declared.journal.Line.{Line}

pub record AJournal : Type 0 where
  -- the items; how many texts each has; whether room is kept for one more
  pub lines : List Line
  pub counts : List ℕ
  pub has_room : Bool

-- how many items a journal may have
abbrev pub max_items : ℕ
max_items = 262144

abbrev pub items_of : List Line → List Stored
items_of lines = map (λ (l : Line). l.item) lines

abbrev pub new_journal : AJournal
new_journal = record { lines = []; counts = []; has_room = false }

abbrev pub reserved : AJournal → AJournal
reserved j = record j { has_room = true }

abbrev pub pushed : AJournal → Line → ℕ → AJournal
pushed j line count = record { lines = j.lines ++ line ∷ []; counts = j.counts ++ count ∷ []; has_room = false }

-- ---- runs

abbrev pub are_equal_advances : Stored → Stored → Bool
are_equal_advances (stored.Advance s m) (stored.Advance t n) = (s == t) && (m == n)
are_equal_advances i j = false

-- they are equal advances of one subscription, and show no id
abbrev pub is_run : Line → Line → Bool
is_run l m = are_equal_advances l.item m.item && (is_none l.id && is_none m.id)

-- an item, and how many such stand there, one behind the other
abbrev pub Run : Type 0
Run = Line × ℕ

abbrev pub put_before : Line → List Run → List Run
put_before l [] = (l, 1) ∷ []
put_before l (r ∷ rs) = if is_run l r.0 then (l, suc r.1) ∷ rs else (l, 1) ∷ r ∷ rs

-- the items, equal neighbouring advances as one
abbrev pub runs : List Line → List Run
runs [] = []
runs (l ∷ ls) = put_before l (runs ls)
