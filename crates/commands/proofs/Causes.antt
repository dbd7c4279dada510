-- The causes of the statuses of a run.
use Rattle.std.proofs.Common.{◌≡◌, ◌≤◌, ◌<◌, ℕ, List, [], Bool, true, false, Option, Some, None, length, take, sym, subst, ◌∙◌, inl, inr}
use Rattle.std.specs.Prelude.{IfSome, is_some}
use Rattle.io_edge.specs.Outside.{Grows}
use Rattle.replay_core.specs.checking.Input.{input_limit, line_limit, lines_in, IsWithin, IsTooLong}
use Rattle.replay_core.specs.TruthLaws.{replays_are_true}
use Rattle.commands.specs.declared.command.Command.{Command}
use Rattle.commands.specs.declared.command.Command.TheVariants as command
use Rattle.commands.specs.declared.status.Status.{Status}
use Rattle.commands.specs.declared.status.Status.TheVariants as status
use Rattle.commands.specs.Cause.{reads, output_of, bad_line_of, IsTrueRunOf, Ran, EndsAs, CauseOf, CauseBy}

-- ---- inputs

-- what holds of the bytes that were read holds of the input, where the source told it
of_the_input : (o : Option (List ℕ)) (P : List ℕ → Type 0) (bytes : List ℕ) → IfSome o (λ old. bytes ≡ old) → P bytes → IfSome o P
of_the_input None P bytes e p = tt
of_the_input (Some old) P bytes e p = subst P e p

-- an input that passes a limit, or keeps to both
pub too_many_bytes : (o : Option (List ℕ)) → IfSome o (λ old. input_limit < length old) → IfSome o IsTooLong
too_many_bytes None more = tt
too_many_bytes (Some old) more = inl more

pub too_many_lines : (o : Option (List ℕ)) (bytes : List ℕ) → IfSome o (λ old. bytes ≡ old) → line_limit < length (lines_in bytes) →
    IfSome o IsTooLong
too_many_lines o bytes same more = of_the_input o IsTooLong bytes same (inr more)

pub keeps_within : (bytes : List ℕ) → length bytes ≤ input_limit → length (lines_in bytes) ≤ line_limit → IsWithin bytes
keeps_within bytes short few = record { bytes = short; lines = few }

-- ---- runs

true_run : (c : Command) (input : List ℕ) → IsTrueRunOf c input
true_run command.Check input = tt
true_run command.Replay input = replays_are_true input
true_run command.Revive input = tt
true_run (command.Beat interval timeout) input = tt
true_run (command.Gen seed calls) input = tt

-- a run of any input is true, wherever it ends
pub run_is_true : (c : Command) (o : Option (List ℕ)) → IfSome o (λ input. IsTrueRunOf c input)
run_is_true c None = tt
run_is_true c (Some input) = true_run c input

-- ---- causes

ran : (c : Command) (bad : Bool) (left rest : Option (List ℕ)) (bytes : List ℕ) (written now : Option (List ℕ)) →
    IfSome left (λ old. bytes ≡ old) → IsWithin bytes → IfSome left (λ old. rest ≡ Some []) →
    Grows written now (output_of c bytes) → is_some (bad_line_of c bytes) ≡ bad → Ran c bad left rest written now
ran c bad left rest bytes written now same short whole grows is_bad = record {
  within = of_the_input left IsWithin bytes same short;
  whole = whole;
  bad_line = of_the_input left (λ input. is_some (bad_line_of c input) ≡ bad) bytes same is_bad;
  output = of_the_input left (λ input. Grows written now (output_of c input)) bytes same grows;
  true_run = run_is_true c left;
}

pub cause_of : (c : Command) (left rest : Option (List ℕ)) (bytes : List ℕ) (written now : Option (List ℕ)) (s : Status) →
    IfSome left (λ old. bytes ≡ old) → IsWithin bytes → IfSome left (λ old. rest ≡ Some []) → EndsAs c bytes written now s → CauseOf c left rest written now s
cause_of c left rest bytes written now status.Ok same short whole ends = ran c false left rest bytes written now same short whole ends.0 ends.1
cause_of c left rest bytes written now status.BadInput same short whole ends = ran c true left rest bytes written now same short whole ends.0 ends.1
cause_of c left rest bytes written now status.WriteFault same short whole ends = record {
  within = of_the_input left IsWithin bytes same short;
  output = of_the_input left (λ input. (n : ℕ) × Grows written now (take n (output_of c input))) bytes same ends;
  true_run = run_is_true c left;
}
cause_of c left rest bytes written now status.Memory same short whole ends = (run_is_true c left, ends)
cause_of c left rest bytes written now _ same short whole ends = absurd ends

-- ---- commands that read an input, and those that read none

pub by_reading : (c : Command) (b : Bool) (left rest written now : Option (List ℕ)) (s : Status) → b ≡ reads c → b ≡ true → CauseOf c left rest written now s → CauseBy (reads c) c left rest written now s
by_reading c b left rest written now s is reads_one cause = subst (λ (x : Bool). CauseBy x c left rest written now s) (sym reads_one ∙ is) cause

pub by_none : (c : Command) (b : Bool) (left rest written now : Option (List ℕ)) (s : Status) → b ≡ reads c → b ≡ false → rest ≡ left → EndsAs c [] written now s → CauseBy (reads c) c left rest written now s
by_none c b left rest written now s is reads_none same ends = subst (λ (x : Bool). CauseBy x c left rest written now s) (sym reads_none ∙ is) (same, ends)

pub reading_is_used : (c : Command) (left rest written now : Option (List ℕ)) (s : Status) → CauseOf c left rest written now s → s ≡ status.Usage → ⊥
reading_is_used c left rest written now s cause e = subst (λ (x : Status). CauseOf c left rest written now x) e cause

pub ending_is_used : (c : Command) (input : List ℕ) (written now : Option (List ℕ)) (s : Status) → EndsAs c input written now s → s ≡ status.Usage → ⊥
ending_is_used c input written now s ends e = subst (λ (x : Status). EndsAs c input written now x) e ends
