-- What is printed of a session's journal.
use Rattle.std.specs.Prelude.{◌≡◌, ℕ, List, [], ◌∷◌, ◌++◌, map, take, drop, replicate, codes, slice_get, Option, None, Some}
use Rattle.value_model.specs.Val.{text}
use Rattle.session_core.specs.history_model.Lines.{worded, line_of}
use Rattle.session_core.specs.session_model.Out.{session_name}
use Rattle.session_state.specs.declared.journal.Line.{Line}
use Rattle.session_state.specs.Journal.{Run, runs}
use Rattle.session_core.specs.session_laws.Session.{ASession}
use Rattle.session_core.specs.Lines.{lines_of}
use Rattle.connection_laws.specs.world_model.Lines.{out_line, line_text}
use Rattle.connection_laws.specs.Printing.{kept_value}
use Rattle.connection.specs.declared.lines.Place.{Place}

-- the line of a text
abbrev pub out_text : List ℕ → List ℕ
out_text t = line_text (out_line t)

-- the texts that were sent, and then those that are to be
abbrev pub texts_in : List (List ℕ) → ASession → List (List ℕ)
texts_in sent s = sent ++ s.carried.outbox

-- the items in order, each with as many of the texts as it has
abbrev pub printed : List Line → List ℕ → List (List ℕ) → List (List ℕ)
printed (l ∷ ls) (n ∷ counts) texts = line_of (kept_value l.item l.id) ∷ (map out_text (take n texts) ++ printed ls counts (drop n texts))
printed ls counts texts = []

abbrev pub head_text : ℕ → List ℕ
head_text number = line_of (worded (codes "journal") (text (session_name number) ∷ []))

abbrev pub all_printed : ASession → List (List ℕ) → List (List ℕ)
all_printed s sent = printed (lines_of s) s.carried.counts (texts_in sent s)

abbrev pub session_lines : ASession → List (List ℕ) → List (List ℕ)
session_lines s sent = head_text s.carried.number ∷ all_printed s sent

-- ---- so far

-- what is still to be printed of these items from the place on
abbrev pub left_from : ASession → List (List ℕ) → Place → List Line → List (List ℕ)
left_from s sent p ls = printed ls (drop p.items s.carried.counts) (drop p.texts (texts_in sent s))

-- these items were printed from the one place to the other
abbrev pub Prints : ASession → List (List ℕ) → List Line → Place → Place → List (List ℕ) → List (List ℕ) → Type 0
Prints s sent ls old new before after = (rest : List Line) → before ++ left_from s sent old (ls ++ rest) ≡ after ++ left_from s sent new rest

-- the items of a record of the journal
abbrev pub record_lines : Option Run → List Line
record_lines None = []
record_lines (Some r) = replicate r.1 r.0

abbrev pub record_at : ASession → ℕ → List Line
record_at s place = record_lines (slice_get (runs (lines_of s)) place)
