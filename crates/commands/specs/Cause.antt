-- When each status of a run comes, and what was read and written then.
use Rattle.std.specs.Prelude.{◌≡◌, ◌≤◌, ℕ, List, [], ◌∷◌, take, Bool, true, false, Option, None, Some, is_some, IfSome, codes, option_and_then}
use Rattle.std.specs.Prelude.{option_map, if◌then◌else◌}
use Rattle.value_model.specs.Size.{is_name}
use Rattle.io_edge.specs.Outside.{Grows}
use Rattle.replay_core.specs.checking.Input.{IsWithin, IsTooLong}
use Rattle.replay_core.specs.checking.Check.{check_text, check_bad}
use Rattle.heartbeat.specs.Beats.{IsTime, longest}
use Rattle.command_words.specs.Number.{number_in}
use Rattle.beating.specs.Run.{beat_text, beat_bad}
use Rattle.generated_work.specs.Generated.{generated_input, max_calls}
use Rattle.reviving.specs.Run.{revive_text, revive_bad}
use Rattle.commands.specs.declared.command.Command.{Command}
use Rattle.commands.specs.declared.command.Command.TheVariants as command
use Rattle.commands.specs.declared.status.Status.{Status}
use Rattle.commands.specs.declared.status.Status.TheVariants as status
use Rattle.replay_core.specs.Replay.{replay_text, first_bad}
use Rattle.replay_core.specs.Truth.{IsTrueReplay}

-- the command that the word names alone
abbrev pub command_of : List ℕ → Option Command
command_of word =
    if is_name word (codes "check") then Some command.Check
    else if is_name word (codes "replay") then Some command.Replay
    else if is_name word (codes "revive") then Some command.Revive
    else None

-- a number of milliseconds that a heart takes
abbrev pub time_in : List ℕ → Option ℕ
time_in word = number_in 1 longest word

-- the command `beat` with the times that these words tell
abbrev pub beat_of : List ℕ → List ℕ → Option Command
beat_of interval timeout = option_and_then (λ i. option_map (λ t. command.Beat i t) (time_in timeout)) (time_in interval)

-- the command `gen` with the numbers that these words tell
abbrev pub gen_of : List ℕ → List ℕ → Option Command
gen_of seed calls = option_and_then (λ n. option_map (λ c. command.Gen n c) (number_in 0 max_calls calls)) (number_in 0 4294967295 seed)

-- the command that a word names with two behind it
abbrev pub command_with : List ℕ → List ℕ → List ℕ → Option Command
command_with word one two = if is_name word (codes "beat") then beat_of one two else (if is_name word (codes "gen") then gen_of one two else None)

-- the command that the words name, if they are those of one
abbrev pub command_in : List (List ℕ) → Option Command
command_in (word ∷ []) = command_of word
command_in (word ∷ one ∷ two ∷ []) = command_with word one two
command_in _ = None

-- whether a command reads an input
abbrev pub reads : Command → Bool
reads (command.Gen seed calls) = false
reads _ = true

-- the numbers of a command are within what it takes
abbrev pub HasBounds : Command → Type 0
HasBounds (command.Beat interval timeout) = IsTime interval × IsTime timeout
HasBounds (command.Gen seed calls) = calls ≤ max_calls
HasBounds _ = Unit {0}

-- the whole output of a command for an input
abbrev pub output_of : Command → List ℕ → List ℕ
output_of command.Check input = check_text input
output_of command.Replay input = replay_text input
output_of command.Revive input = revive_text input
output_of (command.Beat interval timeout) input = beat_text interval timeout input
output_of (command.Gen seed calls) input = generated_input seed calls

-- the number of the first line that isn't of the grammar
abbrev pub bad_line_of : Command → List ℕ → Option ℕ
bad_line_of command.Check input = check_bad input
bad_line_of command.Replay input = first_bad input
bad_line_of command.Revive input = revive_bad input
bad_line_of (command.Beat interval timeout) input = beat_bad input
bad_line_of (command.Gen seed calls) input = None

-- what holds of the worlds of a replay
abbrev pub IsTrueRunOf : Command → List ℕ → Type 0
IsTrueRunOf command.Replay input = IsTrueReplay input
IsTrueRunOf _ input = Unit {0}

-- The input was read whole and is within the limits; whether a line is bad is so; the whole output was written; and what holds of a run of the
-- command holds of this one.
-- Where source and sink tell what they hold.
pub record Ran (command : Command) (bad : Bool) (left rest written now : Option (List ℕ)) : Type 0 where
  pub within : IfSome left IsWithin
  pub whole : IfSome left (λ input. rest ≡ Some [])
  pub bad_line : IfSome left (λ input. is_some (bad_line_of command input) ≡ bad)
  pub output : IfSome left (λ input. Grows written now (output_of command input))
  pub true_run : IfSome left (λ input. IsTrueRunOf command input)

-- a prefix of the output was written
pub record CutShort (command : Command) (left written now : Option (List ℕ)) : Type 0 where
  pub within : IfSome left IsWithin
  pub output : IfSome left (λ input. (n : ℕ) × Grows written now (take n (output_of command input)))
  pub true_run : IfSome left (λ input. IsTrueRunOf command input)

-- What came of an input that was read whole: the whole output was written, and whether a line is bad is so; or a prefix of the output was, or nothing.
abbrev pub EndsAs : Command → List ℕ → Option (List ℕ) → Option (List ℕ) → Status → Type 0
EndsAs c input written now status.Ok = Grows written now (output_of c input) × (is_some (bad_line_of c input) ≡ false)
EndsAs c input written now status.BadInput = Grows written now (output_of c input) × (is_some (bad_line_of c input) ≡ true)
EndsAs c input written now status.WriteFault = (n : ℕ) × Grows written now (take n (output_of c input))
EndsAs c input written now status.Memory = Grows written now []
EndsAs c input written now _ = ⊥

-- the cause of a status of a command, from what the source had left and the sink had written before the run and has now
abbrev pub CauseOf : Command → Option (List ℕ) → Option (List ℕ) → Option (List ℕ) → Option (List ℕ) → Status → Type 0
CauseOf c left rest written now status.Ok = Ran c false left rest written now
CauseOf c left rest written now status.BadInput = Ran c true left rest written now
CauseOf c left rest written now status.ReadFault = Grows written now []
CauseOf c left rest written now status.WriteFault = CutShort c left written now
CauseOf c left rest written now status.TooLong = IfSome left IsTooLong × Grows written now []
CauseOf c left rest written now status.Memory = IfSome left (λ input. IsTrueRunOf c input) × Grows written now []
CauseOf c left rest written now _ = ⊥

-- The cause of a status of a command that reads an input, or of one that reads none: its source stays as it was, and it ends as for an empty input.
abbrev pub CauseBy : Bool → Command → Option (List ℕ) → Option (List ℕ) → Option (List ℕ) → Option (List ℕ) → Status → Type 0
CauseBy true c left rest written now s = CauseOf c left rest written now s
CauseBy false c left rest written now s = (rest ≡ left) × EndsAs c [] written now s

-- `Usage` comes exactly where the words name no command
abbrev pub Cause : Option Command → Option (List ℕ) → Option (List ℕ) → Option (List ℕ) → Option (List ℕ) → Status → Type 0
Cause None left rest written now s = s ≡ status.Usage
Cause (Some c) left rest written now s = CauseBy (reads c) c left rest written now s
