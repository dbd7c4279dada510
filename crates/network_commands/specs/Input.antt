-- What the lines of an input are: the application on the first, and for a console a script on the others. Blank lines behind the
-- first are passed over.
use Rattle.std.specs.Prelude.{ℕ, List, Option, Some, option_and_then, if◌then◌else◌}
use Rattle.std.specs.Result.{result_ok}
use Rattle.app_model.specs.App.{App}
use Rattle.checking.specs.Input.{lines_in, rest_of, value_in}
use Rattle.checking.specs.Walk.{read_to_bad, bad_from}
use Rattle.checking.specs.Check.{first_reading, is_app, check_bad}
use Rattle.client_script.specs.declared.line.Line.{Line}
use Rattle.client_script.specs.Lines.{line_in}
use Rattle.network_commands.specs.declared.command.NetworkCommand.{NetworkCommand}
use Rattle.network_commands.specs.declared.command.NetworkCommand.TheVariants as command

-- the application of an input, if its first line is one
abbrev pub app_in : List ℕ → Option App
app_in input = option_and_then result_ok (first_reading (lines_in input))

-- what a line of a script describes
abbrev pub action_in : List ℕ → Option Line
action_in l = option_and_then line_in (value_in l)

-- what these lines describe, up to the first one that is no line of a script
abbrev pub actions_of : List (List ℕ) → List Line
actions_of ls = read_to_bad action_in ls

-- the number of the first line that is no line of a script, counted from n
abbrev pub no_action : ℕ → List (List ℕ) → Option ℕ
no_action n ls = bad_from action_in n ls

-- the script of a console's input
abbrev pub script_in : List ℕ → List Line
script_in input = actions_of (rest_of (lines_in input))

-- the number of the first line of a console's input that isn't of the grammar
abbrev pub console_bad : List ℕ → Option ℕ
console_bad input = if is_app (first_reading (lines_in input)) then no_action 2 (rest_of (lines_in input)) else Some 1

-- the number of the first line that isn't of the grammar
abbrev pub bad_line_of : NetworkCommand → List ℕ → Option ℕ
bad_line_of (command.Serve port connections) input = check_bad input
bad_line_of (command.Console port) input = console_bad input
