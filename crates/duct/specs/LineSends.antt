-- A send on a link in memory.
use Rattle.std.specs.Prelude.{◌≡◌, ℕ, ◌+◌, ◌==◌, Option, Some, None, List, Result, Ok, Err, if◌then◌else◌}
use Rattle.duct.specs.declared.link.SendFault.{SendFault}
use Rattle.duct.specs.declared.link.SendFault.TheVariants.{Full, Closed, Failed, Memory}
use Rattle.duct.specs.Sends.{with_sent, with_refused}
use Rattle.duct.specs.Schedules.{fails_after}
use Rattle.duct.specs.Lines.{Line}

-- why a text is handed back, but for want of memory: the scheduled failure first, then no room, then a peer that has closed
abbrev pub refusal_of : Line → Option SendFault
refusal_of l = if fails_after l.failing_sends l.sends then Some Failed
    else (if l.told.room == 0 then Some Full
    else (if l.told.closed then Some Closed else None))

-- memory may be refused at any time
abbrev pub RefusesFor : Line → SendFault → Type 0
RefusesFor l Memory = Unit {0}
RefusesFor l fault = refusal_of l ≡ Some fault

-- whether the text was taken, or handed back for a cause
abbrev pub LineRefuses : {R : Type 0} → Line → Result R (List ℕ × SendFault) → Type 0
LineRefuses l (Ok _) = refusal_of l ≡ None
LineRefuses l (Err refused) = RefusesFor l refused.1

abbrev pub faults_after : ℕ → SendFault → ℕ
faults_after faults Failed = faults + 1
faults_after faults _ = faults

-- after a text was offered; offers past the last that is counted are refused for want of memory and not counted
abbrev pub line_sent : {R : Type 0} → Line → List ℕ → Result R (List ℕ × SendFault) → ℕ → Line
line_sent l text (Ok _) sends = record l { told = with_sent l.told text; sends = sends }
line_sent l text (Err refused) sends = record l { told = with_refused l.told; sends = sends; faults = faults_after l.faults refused.1 }
