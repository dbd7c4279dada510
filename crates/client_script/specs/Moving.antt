-- What the parts of a run do: with the speaker, with the link, with both.
use Rattle.std.specs.Prelude.{◌≡◌, ◌⊎◌, ℕ, ◌≤◌, List, [], ◌++◌, length, take, slice_get, Bool, true, false, Option, Some, None, option_to_list, Result, Ok, Err}
use mathlib.Core.List.{IsPrefix}
use Rattle.io_edge.specs.Outside.{Grows}
use Rattle.duct.specs.declared.link.Polled.{Polled}
use Rattle.duct.specs.declared.link.Polled.TheVariants as polled
use Rattle.duct.specs.declared.link.SendFault.{SendFault}
use Rattle.duct.specs.Calls.{Call, Leads, heard_in, said_in, answers_in}
use Rattle.duct.specs.Calls as call
use Rattle.duct.specs.Polls.{has_closed}
use Rattle.client_script.specs.declared.line.Line.{Line}
use Rattle.client_script.specs.declared.end.ConsoleEnd.{ConsoleEnd}
use Rattle.client_script.specs.declared.end.ConsoleEnd.TheVariants as ended
use Rattle.client_script.specs.declared.offering.Offered.{Offered}
use Rattle.client_script.specs.declared.offering.Offered.TheVariants as offered
use Rattle.client_script.specs.Speaking.{Look, Deed, GoesOnAs, Says}
use Rattle.client_script.specs.Speaking as deed
use Rattle.client_script.specs.Course.{Step, ran, texts_heard, lines_run, texts_said, written, Makes, Goes}
use Rattle.client_script.specs.Ends.{is_link_fault, is_write_fault, Cuts, IsLeft, Ran}

-- ---- the link

-- what came of the text that was kept, where there was one
abbrev pub Offers : {L : Type 0} → (L → Call → L → Type 0) → L → Option (List ℕ) → L → Option (List ℕ) → Offered → Type 0
Offers steps link kept link' kept' offered.Nothing = (kept ≡ None) × (kept' ≡ None) × (link' ≡ link)
Offers steps link kept link' kept' offered.Taken = (text : List ℕ) × (kept ≡ Some text) × (kept' ≡ None) × steps link (call.said text) link'
Offers steps link kept link' kept' _ =
    (text : List ℕ) × (fault : SendFault) × (kept ≡ Some text) × (kept' ≡ Some text) × steps link (call.handed_back text fault) link'

abbrev pub offer_failed : Offered → Bool
offer_failed offered.Failed = true
offer_failed _ = false

-- ---- the speaker

module _ {S : Type 0} (look : S → Look) (does : S → Deed → S → Type 0) where
  -- a text is kept, which the speaker gave now where none was kept before
  abbrev pub Fetches : S → Option (List ℕ) → S → Option (List ℕ) → Type 0
  Fetches s (Some text) s' kept' = (s' ≡ s) × (kept' ≡ Some text)
  Fetches s None s' kept' = Says look does s s' kept'

  -- what comes of a text that is heard: the script goes on, or ends as the speaker says
  abbrev pub Takes : S → List ℕ → S → Option ConsoleEnd → Type 0
  Takes s text s' None = does s (deed.heard text) s' × ((look s').broken ≡ None) × ((look s').is_failed ≡ false)
  Takes s text s' (Some ended.Memory) = Unit {0}
  Takes s text s' (Some ended.Version) = does s (deed.heard text) s' × ((look s').broken ≡ None) × ((look s').is_failed ≡ true)
  Takes s text s' (Some (ended.ServerSent n)) = does s (deed.heard text) s' × ((look s').broken ≡ Some n) × ((look s').is_failed ≡ false)
  Takes s text s' (Some _) = true ≡ false

  -- what comes of a poll
  abbrev pub Listens : S → Polled → S → Option ConsoleEnd → Type 0
  Listens s (polled.Message text) s' result = Takes s text s' result
  Listens s polled.Quiet s' result = (result ≡ None) × (s' ≡ s)
  Listens s polled.Closed s' result = (result ≡ Some ended.Closed) × (s' ≡ s)
  Listens s polled.Failed s' result = (result ≡ Some ended.LinkFault) × (s' ≡ s)
  Listens s polled.Memory s' result = (result ≡ Some ended.Memory) × (s' ≡ s)

  -- a print writes its lines, or is cut short
  abbrev pub Prints : {X : Type 0} → S → Option (List ℕ) → Option (List ℕ) → Result X ConsoleEnd → Type 0
  Prints s held held' (Ok x) = Grows held held' (written (look s).lines)
  Prints s held held' (Err ended.WriteFault) = (cut : List ℕ) × IsPrefix cut (written (look s).lines) × Grows held held' cut
  Prints s held held' (Err ended.Memory) = held' ≡ held
  Prints s held held' (Err _) = true ≡ false

  -- a line is run, or it can't be run yet, or the script ends
  abbrev pub RunsOne : S → Line → Option (List ℕ) → S → Option (List ℕ) → Result Bool ConsoleEnd → Type 0
  RunsOne s line held s' held' (Ok true) = (bytes : List ℕ) × Makes look does s (ran line) s' bytes × Grows held held' bytes × GoesOnAs (look s) (look s')
  RunsOne s line held s' held' (Ok false) = (s' ≡ s) × (held' ≡ held)
  RunsOne s line held s' held' (Err ended.WriteFault) = (cut : List ℕ) × Cuts ended.WriteFault (Some line) (look s) cut × Grows held held' cut × (s' ≡ s)
  RunsOne s line held s' held' (Err ended.Memory) = held' ≡ held
  RunsOne s line held s' held' (Err _) = true ≡ false

  -- lines are run from one line of the script to another, and no text is heard or given
  pub record RunsLines (script : List Line) (begin : ℕ) (s : S) (held : Option (List ℕ)) (line : ℕ) (s' : S) (held' : Option (List ℕ)) : Type 0 where
    pub steps : List Step
    pub bytes : List ℕ
    pub goes : Goes look does s steps s' bytes
    pub heard : texts_heard steps ≡ []
    pub said : texts_said steps ≡ []
    pub lines : take line script ≡ take begin script ++ lines_run steps
    pub within : line ≤ length script
    pub grows : Grows held held' bytes
    pub same : GoesOnAs (look s) (look s')

  -- they are run up to one at which the script ends
  pub record StopsAt (script : List Line) (begin : ℕ) (s : S) (held : Option (List ℕ)) (line : ℕ) (s' : S) (held' : Option (List ℕ))
      (end : ConsoleEnd) : Type 0 where
    pub last : S
    pub mid : Option (List ℕ)
    pub runs : RunsLines script begin s held line last mid
    pub cut : List ℕ
    pub grows : Grows mid held' cut
    pub cuts : Cuts end (slice_get script line) (look last) cut
    pub now : IsLeft end last s'
    pub by : (end ≡ ended.WriteFault) ⊎ (end ≡ ended.Memory)

  -- all lines are run, or those that can be run now, or the script ends
  abbrev pub RunsAll : List Line → ℕ → S → Option (List ℕ) → ℕ → S → Option (List ℕ) → Result Bool ConsoleEnd → Type 0
  RunsAll script begin s held line s' held' (Ok true) = RunsLines script begin s held line s' held' × (line ≡ length script)
  RunsAll script begin s held line s' held' (Ok false) = RunsLines script begin s held line s' held'
  RunsAll script begin s held line s' held' (Err end) = StopsAt script begin s held line s' held' end

-- by which ends the link, or the sink, failed
abbrev pub link_failed : Option ConsoleEnd → Bool
link_failed (Some e) = is_link_fault e
link_failed None = false

abbrev pub sink_failed : Option ConsoleEnd → Bool
sink_failed (Some e) = is_write_fault e
sink_failed None = false

abbrev pub write_failed : {X : Type 0} → Result X ConsoleEnd → Bool
write_failed (Err e) = is_write_fault e
write_failed (Ok x) = false

-- ---- both

module _ {S L : Type 0} (look : S → Look) (does : S → Deed → S → Type 0) (steps_of : L → Call → L → Type 0) where
  -- what was done with the link, and meanwhile by the speaker
  pub record Moves (s : S) (link : L) (kept : Option (List ℕ)) (s' : S) (link' : L) (kept' : Option (List ℕ)) (lines : List Line)
      (bytes : List ℕ) : Type 0 where
    pub calls : List Call
    pub leads : Leads steps_of link calls link'
    pub steps : List Step
    pub goes : Goes look does s steps s' bytes
    pub heard : texts_heard steps ≡ heard_in calls
    pub said : option_to_list kept ++ texts_said steps ≡ said_in calls ++ option_to_list kept'
    pub run : lines_run steps ≡ lines
    pub unclosed : has_closed (answers_in calls) ≡ false
    pub same : GoesOnAs (look s) (look s')

  -- the link was polled once
  abbrev pub Polls : S → L → S → L → Option ConsoleEnd → Type 0
  Polls s link s' link' result = (answer : Polled) × steps_of link (call.heard answer) link' × Listens look does s answer s' result

  -- and lines of the script were run
  pub record Stands (script : List Line) (begin : ℕ) (s : S) (link : L) (held kept : Option (List ℕ)) (line : ℕ) (s' : S) (link' : L)
      (held' kept' : Option (List ℕ)) : Type 0 where
    pub ran_lines : List Line
    pub bytes : List ℕ
    pub moves : Moves s link kept s' link' kept' ran_lines bytes
    pub lines : take line script ≡ take begin script ++ ran_lines
    pub within : line ≤ length script
    pub grows : Grows held held' bytes

  -- the script goes on, or has ended
  abbrev pub Turns : List Line → ℕ → S → L → Option (List ℕ) → Option (List ℕ) → ℕ → S → L → Option (List ℕ) → Option (List ℕ) → Option ConsoleEnd → Type 0
  Turns script begin s link held kept line s' link' held' kept' None = Stands script begin s link held kept line s' link' held' kept'
  Turns script begin s link held kept line s' link' held' kept' (Some end) = Ran look does steps_of script begin s link held kept line s' link' held' end
