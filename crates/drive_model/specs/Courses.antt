-- The course of a client that runs its script while threads serve it.
use Rattle.std.specs.Prelude.{◌≡◌, ◌⊎◌, ℕ, List, [], ◌∷◌, ◌++◌, length, take, slice_get, Bool, true, Some}
use Rattle.app_model.specs.App.{App}
use Rattle.client_model.specs.Client.{new_client}
use Rattle.client_core.specs.State.{Own}
use Rattle.client_script.specs.declared.line.Line.{Line}
use Rattle.client_script.specs.declared.line.Line.TheVariants as line
use Rattle.client_script.specs.Course.{Step, texts_heard, lines_run}
use Rattle.console_run.specs.Console.{all_made, AllMayBeMade}
use Rattle.world_model.specs.Conn.{Conn}

-- the client of this name at its beginning
abbrev pub begun : App → List ℕ → Own
begun app name = record { app = app; name = name; client = new_client }

-- one more wait stands at the end of each script
abbrev pub with_wait : List Line → List Line
with_wait lines = lines ++ line.Wait ∷ []

-- So many lines were run: all of them; or, where a limit was met, those before a wait, or none.
abbrev pub IsThrough : Bool → List Line → ℕ → Type 0
IsThrough limited lines n = (n ≡ length lines) ⊎ ((limited ≡ true) × ((n ≡ 0) ⊎ (slice_get lines n ≡ Some line.Wait)))

-- The course is a list of steps: the texts of the session that the client took, and the lines that were run, one after another. So the number
-- of texts that were taken before a line never falls from line to line, and a line's state is the client once the steps before it were made. In
-- it the client is connected; what it can't be asked for is skipped, and all else is done; and a wait is passed where no subscription and no call
-- waits.
pub record HasRun (app : App) (name : List ℕ) (limited : Bool) (lines : List Line) (c : Conn) : Type 0 where
  pub steps : List Step
  pub right : AllMayBeMade (begun app name) steps
  -- the lines that were run are the first ones of the script
  pub count : ℕ
  pub ran : lines_run steps ≡ take count (with_wait lines)
  pub through : IsThrough limited (with_wait lines) count
  -- the client took the texts that its session sent, and no others
  pub heard : texts_heard steps ≡ c.sent
  pub downward : c.downward ≡ []
  -- the session took `connect` and then the texts that the client made, in order; none waits
  pub took : c.received ≡ (all_made (begun app name) steps).client.waiting
  pub upward : c.upward ≡ []
  pub client : c.client ≡ record (all_made (begun app name) steps).client { waiting = [] }
