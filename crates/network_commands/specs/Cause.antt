-- When each status of a run over a network comes, and what was read and written then.
use Rattle.std.specs.Prelude.{◌≡◌, ℕ, ◌+◌, ◌<◌, ◌⊎◌, List, [], ◌∷◌, take, pos, Option, None, Some, IfSome, Bool, codes}
use Rattle.value_model.specs.Val.{int}
use Rattle.io_edge.specs.Outside.{Grows}
use Rattle.checking.specs.Input.{IsWithin, IsTooLong}
use Rattle.checking.specs.Output.{line, bad, bytes_of}
use Rattle.commands.specs.declared.status.Status.{Status}
use Rattle.commands.specs.declared.status.Status.TheVariants as status
use Rattle.commands.specs.Cause.{command_in, Cause}
use Rattle.app_model.specs.App.{App}
use Rattle.duct.specs.Told.{CountsFaults}
use Rattle.duct.specs.Calls.{Call}
use Rattle.client_script.specs.declared.line.Line.{Line}
use Rattle.client_script.specs.declared.end.ConsoleEnd.{ConsoleEnd}
use Rattle.client_script.specs.declared.end.ConsoleEnd.TheVariants as ended
use Rattle.client_script.specs.Ends.{is_link_fault}
use Rattle.console_run.specs.Console.{Consoles}
use Rattle.console_retry.specs.Retries.{RunsRetried}
use Rattle.console_retry.specs.Retries as retries
use Rattle.network_commands.specs.declared.command.NetworkCommand.{NetworkCommand}
use Rattle.network_commands.specs.declared.command.NetworkCommand.TheVariants as command
use Rattle.network_commands.specs.declared.command.RetryCommand.{RetryCommand}
use Rattle.network_commands.specs.Words.{network_command_in, retry_command_in}
use Rattle.network_commands.specs.Input.{bad_line_of, app_in, script_in}

-- ---- what is known of the outside at one moment

-- how many links a network gave, and how many of its calls failed
pub record Counts : Type 0 where
  pub given : ℕ
  pub faults : ℕ

-- the bytes that a sink was given, where it tells, and a network's counts
pub record Outside : Type 0 where
  pub written : Option (List ℕ)
  pub net : Counts

abbrev pub outside : Option (List ℕ) → ℕ → ℕ → Outside
outside written given faults = record { written = written; net = record { given = given; faults = faults } }

-- nothing was written
abbrev pub IsSilent : Outside → Outside → Type 0
IsSilent before now = Grows before.written now.written []

-- nothing was written, and the network did nothing
abbrev pub IsIdle : Outside → Outside → Type 0
IsIdle before now = IsSilent before now × (now.net ≡ before.net)

-- ---- the input

-- it was read to its end, and is within the limits; it is what the source had left, where that tells
pub record IsRead (left rest : Option (List ℕ)) (input : List ℕ) : Type 0 where
  pub all : IfSome left (λ old. input ≡ old)
  pub whole : IfSome left (λ old. rest ≡ Some [])
  pub within : IsWithin input

-- it wasn't read: that failed, or it passes a limit, or there was no memory for it
abbrev pub IsUnread : Option (List ℕ) → Outside → Outside → Status → Type 0
IsUnread left before now status.ReadFault = IsIdle before now
IsUnread left before now status.TooLong = IfSome left IsTooLong × IsIdle before now
IsUnread left before now status.Memory = IsIdle before now
IsUnread left before now _ = ⊥

-- there was no memory for what its lines describe
abbrev pub IsShort : Outside → Outside → Status → Type 0
IsShort before now s = (s ≡ status.Memory) × IsIdle before now

-- a status that a line tells of: the line was written whole, or a part of it, or there was no memory for it
abbrev pub Tells : Status → List ℕ → Option (List ℕ) → Option (List ℕ) → Status → Type 0
Tells told bytes written now s =
    ((s ≡ told) × Grows written now bytes)
    ⊎ (((s ≡ status.WriteFault) × ((n : ℕ) × Grows written now (take n bytes))) ⊎ ((s ≡ status.Memory) × Grows written now []))

-- what is written where a line is bad: its number alone
abbrev pub named : ℕ → List ℕ
named number = bytes_of (bad number ∷ [])

-- the first bad line was named, and nothing else was done
abbrev pub IsNamed : NetworkCommand → List ℕ → Outside → Outside → Status → Type 0
IsNamed c input before now s =
    (number : ℕ) × (bad_line_of c input ≡ Some number) × Tells status.BadInput (named number) before.written now.written s × (now.net ≡ before.net)

-- ---- serving

-- how serving so many connections ended
abbrev pub Serves : ℕ → Counts → Counts → Status → Type 0
Serves connections before now status.Ok = (now.given ≡ before.given + connections) × (now.faults ≡ before.faults)
Serves connections before now status.NetFault = before.faults < now.faults
Serves connections before now status.Memory = now.faults ≡ before.faults
Serves connections before now _ = ⊥

-- ---- a console

-- the line that tells which rule a text of the server broke
abbrev pub sent_line : ℕ → List ℕ
sent_line number = bytes_of (line (codes "server sent") (int (pos number) ∷ []) ∷ [])

-- the status for the end of a script, and what was written behind it
abbrev pub ComesTo : ConsoleEnd → Option (List ℕ) → Option (List ℕ) → Status → Type 0
ComesTo (ended.ServerSent number) written now s = Tells status.ServerSent (sent_line number) written now s
ComesTo ended.Done written now s = (s ≡ status.Ok) × Grows written now []
ComesTo ended.Version written now s = (s ≡ status.Version) × Grows written now []
ComesTo ended.Closed written now s = (s ≡ status.Closed) × Grows written now []
ComesTo ended.LinkFault written now s = (s ≡ status.NetFault) × Grows written now []
ComesTo ended.WriteFault written now s = (s ≡ status.WriteFault) × Grows written now []
ComesTo ended.Memory written now s = (s ≡ status.Memory) × Grows written now []

-- The network gave one link, and the script of a client of the application ran over it up to an end. `runs` is how a script is run over a link, `link_failed`
-- at which ends the link failed, `comes_to` what status an end comes to, and `faults` how many calls of a link have failed.
module _ {L E : Type 0} (runs : App → List Line → L → Option (List ℕ) → L → Option (List ℕ) → E → Type 0) (link_failed : E → Bool)
    (comes_to : E → Option (List ℕ) → Option (List ℕ) → Status → Type 0) (faults : L → ℕ) where
  pub record RunsScript (app : App) (script : List Line) (before now : Outside) (s : Status) : Type 0 where
    pub net : now.net ≡ record { given = before.net.given + 1; faults = before.net.faults }
    pub first : L
    pub last : L
    pub shown : Option (List ℕ)
    pub end : E
    pub ran : runs app script first before.written last shown end
    pub link : CountsFaults (link_failed end) (faults first) (faults last)
    pub told : comes_to end shown now.written s

-- the network gave no link
abbrev pub HasNoLink : Outside → Outside → Status → Type 0
HasNoLink before now status.NetFault = IsSilent before now × (now.net.given ≡ before.net.given) × (before.net.faults < now.net.faults)
HasNoLink before now status.Memory = IsIdle before now
HasNoLink before now _ = ⊥

-- ---- a run

-- What a command does; `talks` is how the script of an application ends.
module _ (talks : App → List Line → Outside → Outside → Status → Type 0) where
  -- with an input of which no line is bad
  abbrev pub Does : NetworkCommand → List ℕ → Outside → Outside → Status → Type 0
  Does (command.Serve port connections) input before now s = Serves connections before.net now.net s × IsSilent before now
  Does (command.Console port) input before now s = (app : App) × (app_in input ≡ Some app) × talks app (script_in input) before now s

  -- what became of an input: there was no memory for it, or its first bad line was named, or there is none
  abbrev pub Ends : NetworkCommand → List ℕ → Outside → Outside → Status → Type 0
  Ends c input before now s = IsShort before now s ⊎ (IsNamed c input before now s ⊎ ((bad_line_of c input ≡ None) × Does c input before now s))

  -- the cause of a status of a command, from what the source had left before the run and has now
  abbrev pub CauseOf : NetworkCommand → Option (List ℕ) → Option (List ℕ) → Outside → Outside → Status → Type 0
  CauseOf c left rest before now s = IsUnread left before now s ⊎ ((input : List ℕ) × IsRead left rest input × Ends c input before now s)

-- Over links as they are: `steps` is what the calls of a link are, and `faults` how many of them have failed.
module _ {L : Type 0} (steps : L → Call → L → Type 0) (faults : L → ℕ) where
  -- the script of a console
  abbrev pub Talks : App → List Line → Outside → Outside → Status → Type 0
  Talks app script before now s = RunsScript (Consoles steps) is_link_fault ComesTo faults app script before now s ⊎ HasNoLink before now s

  -- The script of a console that goes on over further links, so many at most. `shown` is what was written once it had ended.
  pub record Retried (tries : ℕ) (app : App) (script : List Line) (before now : Outside) (s : Status) : Type 0 where
    pub shown : Option (List ℕ)
    pub end : ConsoleEnd
    pub ran : RunsRetried steps faults script app tries
        (retries.outside before.written before.net.given before.net.faults) (retries.outside shown now.net.given now.net.faults) end
    pub told : ComesTo end shown now.written s

  -- The cause of a status of a run: that of the command which the words name. Where they name none for which a network is needed, it is that of any
  -- other command.
  abbrev pub RunCauseOf : Option NetworkCommand → List (List ℕ) → Option (List ℕ) → Option (List ℕ) → Outside → Outside → Status → Type 0
  RunCauseOf (Some c) words left rest before now s = CauseOf Talks c left rest before now s
  RunCauseOf None words left rest before now s = Cause (command_in words) left rest before.written now.written s

  -- a console that goes on over further links is one whose script ends so
  abbrev pub RetryCauseOf : Option RetryCommand → List (List ℕ) → Option (List ℕ) → Option (List ℕ) → Outside → Outside → Status → Type 0
  RetryCauseOf (Some c) words left rest before now s = CauseOf (Retried c.tries) (command.Console c.port) left rest before now s
  RetryCauseOf None words left rest before now s = RunCauseOf (network_command_in words) words left rest before now s

  abbrev pub RunCause : List (List ℕ) → Option (List ℕ) → Option (List ℕ) → Outside → Outside → Status → Type 0
  RunCause words left rest before now s = RetryCauseOf (retry_command_in words) words left rest before now s

-- the network isn't asked for anything then
abbrev pub IsUnasked : Status → Type 0
IsUnasked status.Usage = Unit {0}
IsUnasked status.BadInput = Unit {0}
IsUnasked status.ReadFault = Unit {0}
IsUnasked status.TooLong = Unit {0}
IsUnasked _ = ⊥
