-- Lines of a replay as they are read, and what some of them do, one after another.
use Rattle.std.specs.Prelude.{◌≡◌, ◌+◌, ◌/◌, ◌≤◌, ℕ, List, [], ◌∷◌, ◌++◌, length, map, true, false, Option, Some, None}
use Rattle.world_core.specs.world_model.World.{World}
use Rattle.checking.specs.Input.{lines_in, lines_to, is_blank}
use Rattle.replay_core.specs.declared.tasks.Task.{Task}
use Rattle.replay_core.specs.declared.tasks.Task.TheVariants as task
use Rattle.replay_core.specs.declared.tasks.ReadLine.{ReadLine}
use Rattle.replay_core.specs.declared.tasks.Batch.{Batch}
use Rattle.replay_core.specs.declared.tasks.Halves.{Halves}
use Rattle.replay_core.specs.Replay.{event_of, events_of, bad_line, printed, all_bytes}
use Rattle.replay_core.specs.Stepping.{IsOperation}

-- this is what the line asks for
abbrev pub IsTask : List ℕ → Task → Type 0
IsTask l task.Nothing = is_blank l ≡ true
IsTask l (task.Operation t op) = (is_blank l ≡ false) × (t ≡ l) × IsOperation l op
IsTask l (task.Event e) = (is_blank l ≡ false) × (event_of l ≡ Some e)
IsTask l task.Bad = (is_blank l ≡ false) × (event_of l ≡ None)

abbrev pub IsRead : ReadLine → Type 0
IsRead r = IsTask r.line.now r.task

abbrev pub AreRead : List ReadLine → Type 0
AreRead [] = Unit {0}
AreRead (r ∷ rs) = IsRead r × AreRead rs

-- the lines as they stand in the input
abbrev pub texts_of : List ReadLine → List (List ℕ)
texts_of rs = map (λ r. r.line.now) rs

-- the batch has the lines of these bytes up to that which has the byte at this place, each read, and what follows; it has
-- none only where nothing follows
pub record Reads (bytes : List ℕ) (place : ℕ) (b : Batch) : Type 0 where
  pub first : lines_in (lines_to place bytes) ≡ texts_of b.read.items
  pub lines : lines_in bytes ≡ texts_of b.read.items ++ lines_in b.rest.now
  pub read : AreRead b.read.items
  pub shorter : length b.read.items + length b.rest.now ≤ length bytes
  pub some : b.read.items ≡ [] → b.rest.now ≡ []

-- each of the lines of these bytes is read
pub record ReadsAll (bytes : List ℕ) (rs : List ReadLine) : Type 0 where
  pub lines : lines_in bytes ≡ texts_of rs
  pub read : AreRead rs
  pub few : length rs ≤ length bytes

-- the lines of these bytes up to that which has the byte at this place, in two parts of which the first ends in their middle,
-- and what follows
pub record AreHalves (bytes : List ℕ) (place : ℕ) (h : Halves) : Type 0 where
  pub half : h.one.now ≡ lines_to (length (lines_to place bytes) / 2) (lines_to place bytes)
  pub both : h.one.now ++ h.other.now ≡ lines_to place bytes
  pub whole : lines_to place bytes ++ h.rest.now ≡ bytes
  pub first : lines_in (lines_to place bytes) ≡ lines_in h.one.now ++ lines_in h.other.now
  pub lines : lines_in bytes ≡ lines_in (lines_to place bytes) ++ lines_in h.rest.now

-- what a world writes for these lines
abbrev pub written : World → List (List ℕ) → List ℕ
written w ls = all_bytes (printed w (events_of ls))

-- a place of a run: the lines that follow, the number of their first, the world, and the output so far
pub record Place : Type 0 where
  pub lines : List (List ℕ)
  pub number : ℕ
  pub world : World
  pub output : List ℕ

abbrev pub place : List (List ℕ) → ℕ → World → List ℕ → Place
place ls n w o = record { lines = ls; number = n; world = w; output = o }

-- what a run comes to from one place, it comes to from the other
pub record Leads (p q : Place) : Type 0 where
  pub text : p.output ++ written p.world p.lines ≡ q.output ++ written q.world q.lines
  pub bad : bad_line p.number p.lines ≡ bad_line q.number q.lines

-- a run from this place ends at the bad line of this number, with this output
pub record Ends (p : Place) (number : ℕ) (now : List ℕ) : Type 0 where
  pub text : p.output ++ written p.world p.lines ≡ now
  pub bad : bad_line p.number p.lines ≡ Some number

-- the lines ran, or those up to the first bad one, whatever lines follow
abbrev pub RunsLines : List (List ℕ) → ℕ → World → World → List ℕ → List ℕ → Option ℕ → Type 0
RunsLines ls first old new before now None = (more : List (List ℕ)) → Leads (place (ls ++ more) first old before) (place more (first + length ls) new now)
RunsLines ls first old new before now (Some number) = (more : List (List ℕ)) → Ends (place (ls ++ more) first old before) number now
