-- A console: a client that runs a script over a link. Its course is a list of steps: the texts of the server that it took and the
-- lines that were run, one after another. So the number of texts that were taken before a line never falls from line to line, and a
-- line's state is the client once the steps before it were made.
use Rattle.std.specs.Prelude.{◌≡◌, ◌≤◌, ℕ, List, [], ◌∷◌, ◌++◌, length, take, slice_get, codes, true, Option, if◌then◌else◌}
use Rattle.io_edge.specs.Outside.{Grows}
use Rattle.duct.specs.Calls.{Call, Leads, heard_in, said_in, answers_in}
use Rattle.duct.specs.Polls.{has_closed}
use Rattle.app_model.specs.App.{App}
use Rattle.client_model.specs.Client.{new_client}
use Rattle.client_model.specs.Asking.{is_connected, is_settled}
use Rattle.client_model.specs.Lines.{line_texts}
use Rattle.client_core.specs.State.{Own, show_lines}
use Rattle.client_script.specs.declared.line.Line.{Line}
use Rattle.client_script.specs.declared.line.Line.TheVariants as line
use Rattle.client_script.specs.declared.end.ConsoleEnd.{ConsoleEnd}
use Rattle.client_script.specs.declared.end.ConsoleEnd.TheVariants as ended
use Rattle.client_script.specs.Course.{Step, texts_heard, lines_run, written}
use Rattle.client_script.specs.Course as step
use Rattle.client_script.specs.Ends.{refusal_of, is_version, is_closed, Cuts, Loses}
use Rattle.console_run.specs.Speaking.{can, asked, told, look_of}

-- its client at the beginning
abbrev pub begun : App → Own
begun app = record { app = app; name = codes "console"; client = new_client }

-- What a step makes of the client, which here keeps each text that it ever had to send: a text of the server is taken, a line asks
-- for what can be done, or is skipped.
abbrev pub made : Own → Step → Own
made own (step.heard text) = told text own
made own (step.ran (line.Ask ask)) = if can own ask then asked ask own else own
made own _ = own

abbrev pub all_made : Own → List Step → Own
all_made own [] = own
all_made own (step ∷ steps) = all_made (made own step) steps

-- lines are run once the client is connected, and a wait is passed where no subscription and no call waits
abbrev pub MayBeMade : Own → Step → Type 0
MayBeMade own (step.ran line.Wait) = (is_connected own.client ≡ true) × (is_settled own.client ≡ true)
MayBeMade own (step.ran line) = is_connected own.client ≡ true
MayBeMade own _ = Unit {0}

abbrev pub AllMayBeMade : Own → List Step → Type 0
AllMayBeMade own [] = Unit {0}
AllMayBeMade own (step ∷ steps) = MayBeMade own step × AllMayBeMade (made own step) steps

-- what is written: at each print what the client has
abbrev pub printed : Own → Step → List ℕ
printed own (step.ran line.Show) = written (line_texts (show_lines own))
printed own _ = []

abbrev pub all_printed : Own → List Step → List ℕ
all_printed own [] = []
all_printed own (step ∷ steps) = printed own step ++ all_printed (made own step) steps

-- once all is done: each line was run, nothing waits, and each text of the client was handed to the link
abbrev pub HasDone : ConsoleEnd → Own → List Line → ℕ → List (List ℕ) → Type 0
HasDone ended.Done own script line back = (line ≡ length script) × (is_connected own.client ≡ true) × (is_settled own.client ≡ true) × (back ≡ [])
HasDone _ own script line back = Unit {0}

module _ {L : Type 0} (steps_of : L → Call → L → Type 0) where
  pub record Consoles (app : App) (script : List Line) (link : L) (held : Option (List ℕ)) (link' : L) (held' : Option (List ℕ))
      (end : ConsoleEnd) : Type 0 where
    -- what was done with the link
    pub calls : List Call
    pub leads : Leads steps_of link calls link'
    -- each text that the link gave was taken or refused, but for one that want of memory may lose
    pub steps : List Step
    pub lost : List (List ℕ)
    pub heard : texts_heard steps ++ lost ≡ heard_in calls
    pub loses : Loses end lost
    -- so many lines were run
    pub line : ℕ
    pub within : line ≤ length script
    pub lines : lines_run steps ≡ take line script
    pub right : AllMayBeMade (begun app) steps
    -- what was handed to the link are the first texts of the client
    pub back : List (List ℕ)
    pub handed : (all_made (begun app) steps).client.waiting ≡ said_in calls ++ back
    -- what was written is what the lines print, the last print perhaps cut short
    pub cut : List ℕ
    pub grows : Grows held held' (all_printed (begun app) steps ++ cut)
    pub cuts : Cuts end (slice_get script line) (look_of (all_made (begun app) steps)) cut
    -- the causes of the ends
    pub refused : (all_made (begun app) steps).client.broken ≡ refusal_of end
    pub failed : (all_made (begun app) steps).client.is_failed ≡ is_version end
    pub closed : has_closed (answers_in calls) ≡ is_closed end
    pub done : HasDone end (all_made (begun app) steps) script line back
