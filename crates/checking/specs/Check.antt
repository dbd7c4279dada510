-- What the command `check` writes for an input. The first line is to be an application, which is said to be right, or what its first fault is and where;
-- nothing is said where the line is missing or no EJSON value. Then the first line that isn't of the grammar is named: the first one where it is no
-- application, else the first further line that isn't blank.
use Rattle.std.specs.Prelude.{ℕ, suc, pos, List, [], ◌∷◌, ◌++◌, Bool, true, false, Option, Some, None, option_map, Ok, Err, if◌then◌else◌, codes}
use Rattle.value_model.specs.Val.{Val, text, int}
use Rattle.program_reading.specs.declared.fault.AppFault.TheVariants as fault
use Rattle.program_reading.specs.Faults.{Reading}
use Rattle.app_model.specs.App.{App}
use Rattle.app_model.specs.Reading.{app_reading}
use Rattle.checking.specs.Input.{lines_in, is_blank, value_in, rest_of}
use Rattle.checking.specs.Output.{line, bytes_of, bad_lines}

-- how a line reads as an application; none where it is no EJSON value
abbrev pub reading_of : List ℕ → Option (Reading App)
reading_of l = option_map app_reading (value_in l)

-- how the first line does
abbrev pub first_reading : List (List ℕ) → Option (Reading App)
first_reading [] = None
first_reading (l ∷ ls) = reading_of l

abbrev pub is_app : Option (Reading App) → Bool
is_app (Some (Ok app)) = true
is_app _ = false

-- what is said of the application
abbrev pub said : Option (Reading App) → List Val
said (Some (Ok app)) = line (codes "ok") [] ∷ []
said (Some (Err (fault.Bad number place))) = line (codes "fault") (int (pos number) ∷ text place ∷ []) ∷ []
said _ = []

-- the number of the first of these lines that isn't blank, counted from n
abbrev pub first_filled : ℕ → List (List ℕ) → Option ℕ
first_filled n [] = None
first_filled n (l ∷ ls) = if is_blank l then first_filled (suc n) ls else Some n

abbrev pub bad_behind : Bool → List (List ℕ) → Option ℕ
bad_behind true ls = first_filled 2 ls
bad_behind false ls = Some 1

-- the number of the first line that isn't of the grammar
abbrev pub check_bad : List ℕ → Option ℕ
check_bad input = bad_behind (is_app (first_reading (lines_in input))) (rest_of (lines_in input))

-- the whole output for an input
abbrev pub check_text : List ℕ → List ℕ
check_text input = bytes_of (said (first_reading (lines_in input)) ++ bad_lines (check_bad input))
