-- The lines of the command `revive`: what the client is asked for and `["show"]`, as in a script; `["server",text]`, `["lost"]` and
-- `["said"]` (ours). `["wait"]` is none: nothing comes of itself here.
use Rattle.std.specs.Prelude.{ℕ, List, Option, Some, None, option_and_then, option_map, codes, if◌then◌else◌}
use Rattle.value_model.specs.Val.{Val, Vals, list}
use Rattle.value_model.specs.Size.{is_name}
use Rattle.line_parts.specs.Parts.{text_first, is_nil, text_alone}
use Rattle.checking.specs.Input.{value_in}
use Rattle.client_script.specs.Lines.{line_in as script_line_in}
use Rattle.client_script.specs.declared.line.Line.{Line as ScriptLine}
use Rattle.client_script.specs.declared.line.Line.TheVariants as script
use Rattle.reviving.specs.declared.lines.Line.{Line}
use Rattle.reviving.specs.declared.lines.Line.TheVariants as line

-- the line of a word behind which nothing stands
abbrev pub alone : Line → Vals → Option Line
alone l vs = if is_nil vs then Some l else None

-- the line of a script
abbrev pub of_script : Option ScriptLine → Option Line
of_script (Some (script.Ask ask)) = Some (line.Ask ask)
of_script (Some script.Show) = Some line.Show
of_script (Some script.Wait) = None
of_script None = None

-- the line of a value that begins with a word, and of what follows it
abbrev pub row_in : Val → List ℕ → Vals → Option Line
row_in v word vs =
    if is_name word (codes "server") then option_map line.Server (text_alone vs)
    else if is_name word (codes "lost") then alone line.Lost vs
    else if is_name word (codes "said") then alone line.Said vs
    else of_script (script_line_in v)

abbrev pub line_in : Val → Option Line
line_in (list vs) = option_and_then (λ first. row_in (list vs) first.0 first.1) (text_first vs)
line_in _ = None

-- what a line of an input describes
abbrev pub line_of : List ℕ → Option Line
line_of l = option_and_then line_in (value_in l)
