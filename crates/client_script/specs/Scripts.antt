-- The script of a list of values.
use Rattle.std.specs.Prelude.{◌≡◌, ℕ, suc, List, length, take, map, slice_get, Some, None, option_map, Result, Ok, Err}
use Rattle.value_model.specs.Val.{Val}
use Rattle.client_script.specs.declared.line.Line.{Line}
use Rattle.client_script.specs.declared.fault.ScriptFault.{ScriptFault}
use Rattle.client_script.specs.declared.fault.ScriptFault.TheVariants.{Bad, Memory}
use Rattle.client_script.specs.Lines.{line_in}

-- each value describes the line at its place
abbrev pub AreLines : List Val → List Line → Type 0
AreLines values script = map line_in values ≡ map Some script

-- the value with this number, counted from 1, is the first one that describes no line
pub record IsFirstBad (values : List Val) (number : ℕ) : Type 0 where
  pub before : List Line
  pub counted : number ≡ suc (length before)
  pub lines : AreLines (take (length before) values) before
  pub bad : option_map line_in (slice_get values (length before)) ≡ Some None

abbrev pub Reads : List Val → Result (List Line) ScriptFault → Type 0
Reads values (Ok script) = AreLines values script
Reads values (Err (Bad number)) = IsFirstBad values number
Reads values (Err Memory) = Unit {0}
