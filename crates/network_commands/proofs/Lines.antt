-- The first line of an input, which is the application, and what follows it.
use Rattle.std.proofs.Common.{◌≡◌, ℕ, List, Option, Some, None, Ok, Err, true, false, refl, ap}
use Rattle.std.specs.Prelude.{if◌then◌else◌, option_and_then}
use Rattle.std.specs.Result.{result_ok}
use Rattle.program_reading.specs.Faults.{Reading}
use Rattle.app_model.specs.App.{App}
use Rattle.checking.specs.Input.{lines_in, rest_of}
use Rattle.checking.specs.Check.{first_reading, is_app, bad_behind, check_bad}
use Rattle.network_commands.specs.Input.{app_in, no_action, console_bad}

none_is_app : (r : Option (Reading App)) → option_and_then result_ok r ≡ None → is_app r ≡ false
none_is_app None e = refl
none_is_app (Some (Err fault)) e = refl
none_is_app (Some (Ok app)) e = cc e

one_is_app : (r : Option (Reading App)) (app : App) → option_and_then result_ok r ≡ Some app → is_app r ≡ true
one_is_app None app e = cc e
one_is_app (Some (Err fault)) app e = cc e
one_is_app (Some (Ok it)) app e = refl

-- an input whose first line is no application
pub no_app_alone : (input : List ℕ) → app_in input ≡ None → check_bad input ≡ Some 1
no_app_alone input e = ap (λ b. bad_behind b (rest_of (lines_in input))) (none_is_app (first_reading (lines_in input)) e)

pub no_app_first : (input : List ℕ) → app_in input ≡ None → console_bad input ≡ Some 1
no_app_first input e =
    ap (λ b. if b then no_action 2 (rest_of (lines_in input)) else Some 1) (none_is_app (first_reading (lines_in input)) e)

-- where it is one, the further lines decide
pub bad_behind_app : (input : List ℕ) (app : App) → app_in input ≡ Some app → console_bad input ≡ no_action 2 (rest_of (lines_in input))
bad_behind_app input app e =
    ap (λ b. if b then no_action 2 (rest_of (lines_in input)) else Some 1) (one_is_app (first_reading (lines_in input)) app e)
