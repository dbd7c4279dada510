-- The line of a drive that a value describes.
use Rattle.std.specs.Prelude.{ℕ, List, Option, Some, None, option_and_then, option_map, if◌then◌else◌, codes}
use Rattle.value_model.specs.Val.{Val, list, Vals}
use Rattle.value_model.specs.Size.{is_name}
use Rattle.line_parts.specs.Parts.{text_first, is_nil, params_in}
use Rattle.client_script.specs.declared.line.Line.{Line}
use Rattle.client_script.specs.declared.line.Line.TheVariants as script
use Rattle.client_script.specs.Lines.{line_in as script_line_in}
use Rattle.drive_script.specs.declared.line.DriveLine.{DriveLine}
use Rattle.drive_script.specs.declared.line.DriveLine.TheVariants as line

-- `["admin",operation]`, after the word: any list of values with at most 32 levels
abbrev pub admin_in : Vals → Option DriveLine
admin_in vs = if is_nil vs then None else option_map line.Admin (params_in vs)

-- nothing is printed while clients run
abbrev pub unless_show : Option Line → Option Line
unless_show (Some (script.Ask ask)) = Some (script.Ask ask)
unless_show (Some script.Wait) = Some script.Wait
unless_show _ = None

-- a line of a client's script: one of a console's that doesn't print
abbrev pub act_line : Vals → Option Line
act_line vs = unless_show (script_line_in (list vs))

-- `[client,"sub",id,name]`, `[client,"call",method]`, both also with parameters, `[client,"unsub",id]` and `[client,"wait"]`, after the client's name
abbrev pub act_in : List ℕ → Vals → Option DriveLine
act_in client vs = option_map (line.Act client) (act_line vs)

-- no client is named `admin`
abbrev pub row_in : List ℕ → Vals → Option DriveLine
row_in name vs = if is_name name (codes "admin") then admin_in vs else act_in name vs

-- the line of a value
abbrev pub line_in : Val → Option DriveLine
line_in (list vs) = option_and_then (λ name. row_in name.0 name.1) (text_first vs)
line_in _ = None
