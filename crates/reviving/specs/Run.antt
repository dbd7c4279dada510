-- What the command `revive` writes for an input. The lines before the first one that isn't of the grammar are run with one client;
-- then that line is named. Blank lines are passed over.
use Rattle.std.specs.Prelude.{
  ℕ,
  pos,
  List,
  [],
  ◌∷◌,
  ◌++◌,
  flat_map,
  Bool,
  true,
  false,
  Option,
  Some,
  None,
  is_none,
  option_and_then,
  codes,
  if◌then◌else◌,
}
use Rattle.std.specs.Result.{result_ok}
use Rattle.value_model.specs.Val.{Val, text, int}
use Rattle.app_model.specs.App.{App}
use Rattle.checking.specs.Input.{line_feed, lines_in}
use Rattle.checking.specs.Output.{line, bytes_of, bad_lines}
use Rattle.checking.specs.Walk.{read_to_bad, bad_from}
use Rattle.checking.specs.Check.{reading_of}
use Rattle.client_core.specs.State.{show_lines}
use Rattle.console_run.specs.Speaking.{asked}
use Rattle.reconnect_model.specs.Saying.{loses, says, first_of}
use Rattle.revived_client.specs.State.{RevivedState, new_state, spoken}
use Rattle.revived_client.specs.Asking.{fault_of, take_fault_of}
use Rattle.revived_client.specs.Hearing.{refusal, heard}
use Rattle.revived_client.specs.Speaking.{look_of}
use Rattle.reviving.specs.declared.lines.Line.{Line}
use Rattle.reviving.specs.declared.lines.Line.TheVariants as lines
use Rattle.reviving.specs.Lines.{line_of}

-- ---- the lines of an input

-- the application that a line describes
abbrev pub app_of : List ℕ → Option App
app_of l = option_and_then result_ok (reading_of l)

-- the lines, up to the first that isn't of the grammar
abbrev pub lines_of : List (List ℕ) → List Line
lines_of ls = read_to_bad line_of ls

-- the number of the first line that isn't of the grammar, counted from n
abbrev pub bad_line : ℕ → List (List ℕ) → Option ℕ
bad_line n ls = bad_from line_of n ls

-- ---- what is written

abbrev pub idle : Val
idle = line (codes "idle") []

abbrev pub refused : ℕ → Val
refused n = line (codes "server sent") (int (pos n) ∷ [])

abbrev pub up : List ℕ → Val
up said = line (codes "up") (text said ∷ [])

abbrev pub unless_done : Bool → List Val
unless_done true = []
unless_done false = idle ∷ []

abbrev pub refusal_lines : Option ℕ → List Val
refusal_lines None = []
refusal_lines (Some n) = refused n ∷ []

abbrev pub said_lines : Option (List ℕ) → List Val
said_lines None = idle ∷ []
said_lines (Some said) = up said ∷ []

-- the text that is said next
abbrev pub next_said : RevivedState → Option (List ℕ)
next_said v = if is_none v.stop then first_of v.revival.waiting else None

-- whether a text of the server is taken or refused
abbrev pub hears : RevivedState → Bool
hears v = is_none (take_fault_of v.stop v.own.client.is_failed)

-- what a line writes
abbrev pub written : RevivedState → Line → List Val
written v (lines.Ask ask) = unless_done ((look_of v).can ask)
written v (lines.Server said) = if hears v then refusal_lines (refusal said v) else idle ∷ []
written v lines.Lost = unless_done (is_none (fault_of v.stop))
written v lines.Said = said_lines (next_said v)
written v lines.Show = show_lines v.own

-- what it makes of the client
abbrev pub after : RevivedState → Line → RevivedState
after v (lines.Ask ask) = if (look_of v).can ask then spoken (asked ask v.own) v else v
after v (lines.Server said) = if hears v then heard said v else v
after v lines.Lost = if is_none (fault_of v.stop) then record v { revival = loses v.revival } else v
after v lines.Said = if is_none v.stop then record v { revival = says v.revival } else v
after v lines.Show = v

-- what lines write, one after another
abbrev pub all_written : RevivedState → List Line → List Val
all_written v [] = []
all_written v (l ∷ ls) = written v l ++ all_written (after v l) ls

-- what is written with the application of the first line, if it is one
abbrev pub written_with : Option App → List (List ℕ) → List Val
written_with None ls = []
written_with (Some app) ls = all_written (new_state app) (lines_of ls)

abbrev pub written_by : List (List ℕ) → List Val
written_by [] = []
written_by (l ∷ ls) = written_with (app_of l) ls

-- the number of the first line that isn't of the grammar
abbrev pub bad_with : Option App → List (List ℕ) → Option ℕ
bad_with None ls = Some 1
bad_with (Some app) ls = bad_line 2 ls

abbrev pub bad_in : List (List ℕ) → Option ℕ
bad_in [] = Some 1
bad_in (l ∷ ls) = bad_with (app_of l) ls

abbrev pub revive_bad : List ℕ → Option ℕ
revive_bad input = bad_in (lines_in input)

-- the whole output for an input
abbrev pub revive_text : List ℕ → List ℕ
revive_text input = bytes_of (written_by (lines_in input) ++ bad_lines (revive_bad input))

-- lines as they are written
abbrev pub line_bytes : List (List ℕ) → List ℕ
line_bytes ls = flat_map (λ l. l ++ line_feed ∷ []) ls
