-- A script that is run over one link after another, with one client: a link that is lost before the script is done is followed by
-- the next one, so many times at most.
use Rattle.std.specs.Prelude.{◌≡◌, ◌⊎◌, ◌↔◌, ℕ, ◌+◌, ◌-◌, ◌<◌, List, [], ◌∷◌, length, Bool, true, false, Option, Some, None, Result, Ok, Err}
use Rattle.duct.specs.Told.{CountsFaults}
use Rattle.duct.specs.Calls.{Call, answers_in}
use Rattle.duct.specs.Polls.{has_closed}
use Rattle.duct.specs.declared.network.NetFault.{NetFault}
use Rattle.duct.specs.declared.network.NetFault.TheVariants.{Failed, Memory}
use Rattle.client_script.specs.declared.line.Line.{Line}
use Rattle.client_script.specs.declared.end.ConsoleEnd.{ConsoleEnd}
use Rattle.client_script.specs.declared.end.ConsoleEnd.TheVariants as ended
use Rattle.client_script.specs.Ends.{Ran, is_link_fault, is_write_fault}
use Rattle.reconnect_model.specs.Saying.{loses}
use Rattle.app_model.specs.App.{App}
use Rattle.revived_client.specs.State.{RevivedState, new_state}
use Rattle.revived_client.specs.Speaking.{look_of, Does}

-- What is known between two links: the client, the first line that wasn't run, what was written, where the output tells it, how many
-- links the network gave, and how many of its calls failed.
pub record Moment : Type 0 where
  pub client : RevivedState
  pub line : ℕ
  pub written : Option (List ℕ)
  pub given : ℕ
  pub faults : ℕ

abbrev pub moment : RevivedState → ℕ → Option (List ℕ) → ℕ → ℕ → Moment
moment client line written given faults = record { client = client; line = line; written = written; given = given; faults = faults }

-- what is known of the outside: what was written, and the network's counts
pub record Outside : Type 0 where
  pub written : Option (List ℕ)
  pub given : ℕ
  pub faults : ℕ

abbrev pub outside : Option (List ℕ) → ℕ → ℕ → Outside
outside written given faults = record { written = written; given = given; faults = faults }

abbrev pub at_moment : Outside → RevivedState → ℕ → Moment
at_moment o client line = moment client line o.written o.given o.faults

-- the link was lost before the script was done
abbrev pub is_loss : ConsoleEnd → Bool
is_loss ended.Closed = true
is_loss ended.LinkFault = true
is_loss _ = false

-- the ends that come of a link that was given, or of what was written over one
abbrev pub is_told : ConsoleEnd → Bool
is_told ended.LinkFault = false
is_told ended.Memory = false
is_told _ = true

-- the client is told of the loss
abbrev pub with_loss : Moment → Moment
with_loss m = record m { client = record m.client { revival = loses m.client.revival } }

-- the network gave no link
abbrev pub HasNoLink : Moment → Moment → ConsoleEnd → Type 0
HasNoLink before after ended.LinkFault = (before.faults < after.faults) × (after ≡ record before { faults = after.faults })
HasNoLink before after ended.Memory = after ≡ before
HasNoLink before after _ = true ≡ false

module _ {L : Type 0} (steps : L → Call → L → Type 0) (failed : L → ℕ) (script : List Line) where
  -- A link that the network gave, and the script that was run over it, from one moment to another and up to this end; `failed` is how
  -- many of a link's calls did.
  pub record Leg : Type 0 where
    pub before : Moment
    pub after : Moment
    pub end : ConsoleEnd
    pub given : after.given ≡ before.given + 1
    pub faults : after.faults ≡ before.faults
    pub first : L
    pub last : L
    pub ran : Ran look_of Does steps script before.line before.client first before.written None after.line after.client last after.written end
    pub link : CountsFaults (is_link_fault end) (failed first) (failed last)

  -- the link was lost, and a further one may be tried
  abbrev pub MayGoOn : ℕ → Leg → Type 0
  MayGoOn tries leg = (is_loss leg.end ≡ true) × (0 < tries)

  -- The leg's end is that of the script: the link wasn't lost, or no further one may be tried. Or there was no memory to go on.
  abbrev pub Stops : ℕ → Leg → ConsoleEnd → Type 0
  Stops tries leg end = ((leg.end ≡ end) × ((is_loss end ≡ false) ⊎ (tries ≡ 0))) ⊎ (MayGoOn tries leg × (end ≡ ended.Memory))

  -- One leg after another, with so many further links at most: each begins where the one before it ended, once the client was told of
  -- the loss, up to the one at which the script ends. Or the network gives no link.
  abbrev pub Retries : ℕ → Moment → List Leg → Moment → ConsoleEnd → Type 0
  Retries tries before [] after end = HasNoLink before after end
  Retries tries before (leg ∷ legs) after end =
      (leg.before ≡ before)
      × (((legs ≡ []) × (after ≡ leg.after) × Stops tries leg end)
      ⊎ (MayGoOn tries leg × Retries (tries - 1) (with_loss leg.after) legs after end))

  -- the last leg is such a one
  abbrev pub last_of : Leg → List Leg → Leg
  last_of leg [] = leg
  last_of leg (next ∷ legs) = last_of next legs

  abbrev pub LastIs : (Leg → Type 0) → List Leg → Type 0
  LastIs P [] = true ≡ false
  LastIs P (leg ∷ legs) = P (last_of leg legs)

  -- its link answered that the peer has closed; a call of its link failed; the script ended so over it
  abbrev pub HasClosed : Leg → Type 0
  HasClosed leg = has_closed (answers_in leg.ran.calls) ≡ true

  abbrev pub HasFailed : Leg → Type 0
  HasFailed leg = failed leg.first < failed leg.last

  abbrev pub EndsAs : ConsoleEnd → Leg → Type 0
  EndsAs end leg = leg.end ≡ end

  -- The causes of the ends, with so many further links at most. All but those that a link or memory may refuse are the end of the last
  -- leg, and have their causes there.
  pub record Causes (tries : ℕ) (before after : Outside) (legs : List Leg) (end : ConsoleEnd) : Type 0 where
    pub given : after.given ≡ before.given + length legs
    pub closed : (end ≡ ended.Closed) ↔ ((after.given ≡ before.given + (tries + 1)) × LastIs HasClosed legs)
    pub link : end ≡ ended.LinkFault → (before.faults < after.faults) ⊎ ((after.given ≡ before.given + (tries + 1)) × LastIs HasFailed legs)
    pub told : is_told end ≡ true → (before.given < after.given) × LastIs (EndsAs end) legs

  -- There was no memory for a client, or its script was run so, from the first line on.
  abbrev pub Begins : App → ℕ → Outside → Outside → List Leg → ConsoleEnd → Type 0
  Begins app tries before after legs end =
      ((legs ≡ []) × (end ≡ ended.Memory) × (after ≡ before))
      ⊎ ((client : RevivedState) × (line : ℕ) × Retries tries (at_moment before (new_state app) 0) legs (at_moment after client line) end)

  pub record RunsRetried (app : App) (tries : ℕ) (before after : Outside) (end : ConsoleEnd) : Type 0 where
    pub legs : List Leg
    pub ran : Begins app tries before after legs end
    pub causes : Causes tries before after legs end

  -- ---- its parts

  -- the script was run over the next link, or there is none
  abbrev pub IsTried : Moment → Moment → Result ConsoleEnd NetFault → Type 0
  IsTried before after (Ok end) = (leg : Leg) × (leg.before ≡ before) × (leg.after ≡ after) × (leg.end ≡ end)
  IsTried before after (Err Failed) = HasNoLink before after ended.LinkFault
  IsTried before after (Err Memory) = HasNoLink before after ended.Memory

  -- the script ended, or goes on over a further link
  abbrev pub Turns : ℕ → Moment → Moment → Option ConsoleEnd → Type 0
  Turns tries before after (Some end) = (legs : List Leg) × Retries tries before legs after end
  Turns tries before after None = (leg : Leg) × (leg.before ≡ before) × MayGoOn tries leg × (after ≡ with_loss leg.after)

  abbrev pub Ends : ℕ → Moment → Moment → ConsoleEnd → Type 0
  Ends tries before after end = (legs : List Leg) × Retries tries before legs after end

-- whether the output failed in a leg
abbrev pub has_write_fault : Result ConsoleEnd NetFault → Bool
has_write_fault (Ok end) = is_write_fault end
has_write_fault (Err fault) = false
