-- Templates of modifiers that are one operator with one path.
use Rattle.std.specs.Prelude.{◌≡◌, ◌≤◌, ℕ, true, false, length}
use Rattle.selector_match.specs.Reading.{begins_with_dollar}
use Rattle.program_run.specs.declared.filling.OneOperator.{OneOperator}

-- the most bytes of an operator's name and of a path that are read without filling the template
abbrev pub max_name : ℕ
max_name = 8192

-- the name is one of an operator, the path's isn't, and both are short
pub record IsShortOperator (one : OneOperator) : Type 0 where
  pub operator : begins_with_dollar one.name.now ≡ true
  pub path : begins_with_dollar one.written.now ≡ false
  pub short_name : length one.name.now ≤ max_name
  pub short_path : length one.written.now ≤ max_name
