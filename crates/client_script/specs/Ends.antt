-- How a script ends that is run over a link.
use Rattle.std.specs.Prelude.{◌≡◌, ◌≤◌, ℕ, List, [], ◌++◌, length, take, slice_get, Bool, true, false, Option, Some, None, option_to_list}
use mathlib.Core.List.{IsPrefix}
use Rattle.io_edge.specs.Outside.{Grows}
use Rattle.duct.specs.Calls.{Call, Leads, heard_in, said_in, answers_in}
use Rattle.duct.specs.Polls.{has_closed}
use Rattle.client_script.specs.declared.line.Line.{Line}
use Rattle.client_script.specs.declared.line.Line.TheVariants as line
use Rattle.client_script.specs.declared.end.ConsoleEnd.{ConsoleEnd}
use Rattle.client_script.specs.declared.end.ConsoleEnd.TheVariants as ended
use Rattle.client_script.specs.Speaking.{Look, Deed}
use Rattle.client_script.specs.Course.{Step, texts_heard, lines_run, texts_said, written, Goes}

-- the number of the rule by which a text was refused
abbrev pub refusal_of : ConsoleEnd → Option ℕ
refusal_of (ended.ServerSent n) = Some n
refusal_of _ = None

abbrev pub is_version : ConsoleEnd → Bool
is_version ended.Version = true
is_version _ = false

abbrev pub is_closed : ConsoleEnd → Bool
is_closed ended.Closed = true
is_closed _ = false

abbrev pub is_link_fault : ConsoleEnd → Bool
is_link_fault ended.LinkFault = true
is_link_fault _ = false

abbrev pub is_write_fault : ConsoleEnd → Bool
is_write_fault ended.WriteFault = true
is_write_fault _ = false

-- Once all is done each line was run, the client is connected and nothing of it waits, and each of its texts was handed to the link.
-- Here: what is seen then, how many lines were run, and the texts that were not handed to the link.
abbrev pub IsDone : ConsoleEnd → Look → List Line → ℕ → List (List ℕ) → Type 0
IsDone ended.Done l script line back = (line ≡ length script) × (l.is_connected ≡ true) × (l.is_settled ≡ true) × (l.waiting ≡ []) × (back ≡ [])
IsDone _ l script line back = Unit {0}

-- what was written of the lines of a print that was cut short
abbrev pub Cuts : ConsoleEnd → Option Line → Look → List ℕ → Type 0
Cuts ended.WriteFault next l cut = (next ≡ Some line.Show) × (l.is_connected ≡ true) × IsPrefix cut (written l.lines)
Cuts _ next l cut = cut ≡ []

-- want of memory may lose the text that was heard last, and leave the speaker in any state
abbrev pub Loses : ConsoleEnd → List (List ℕ) → Type 0
Loses ended.Memory lost = Unit {0}
Loses _ lost = lost ≡ []

abbrev pub IsLeft : {S : Type 0} → ConsoleEnd → S → S → Type 0
IsLeft ended.Memory last now = Unit {0}
IsLeft _ last now = now ≡ last

module _ {S L : Type 0} (look : S → Look) (does : S → Deed → S → Type 0) (steps_of : L → Call → L → Type 0) where
  -- A script that was run from the line at `begin` on over a link, up to this end; `kept` is a text that the speaker gave before.
  pub record Ran (script : List Line) (begin : ℕ) (s : S) (link : L) (held kept : Option (List ℕ)) (line : ℕ) (s' : S) (link' : L)
      (held' : Option (List ℕ)) (end : ConsoleEnd) : Type 0 where
    -- what was done with the link, and meanwhile by the speaker, up to its last state
    pub calls : List Call
    pub leads : Leads steps_of link calls link'
    pub steps : List Step
    pub bytes : List ℕ
    pub last : S
    pub goes : Goes look does s steps last bytes
    pub now : IsLeft end last s'
    -- each text that the link gave was heard, and what was handed to it are the first texts that the speaker gave
    pub lost : List (List ℕ)
    pub heard : texts_heard steps ++ lost ≡ heard_in calls
    pub loses : Loses end lost
    pub back : List (List ℕ)
    pub said : option_to_list kept ++ texts_said steps ≡ said_in calls ++ back
    -- the lines that were run are those from the first one on, and what was written is what they print
    pub lines : take line script ≡ take begin script ++ lines_run steps
    pub within : line ≤ length script
    pub cut : List ℕ
    pub grows : Grows held held' (bytes ++ cut)
    pub cuts : Cuts end (slice_get script line) (look last) cut
    -- the causes of the ends
    pub refused : (look last).broken ≡ refusal_of end
    pub failed : (look last).is_failed ≡ is_version end
    pub closed : has_closed (answers_in calls) ≡ is_closed end
    pub done : IsDone end (look last) script line back
