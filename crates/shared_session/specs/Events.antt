-- The calls of a session with a pass: what each makes of the session, and that the session goes on standing for its texts.
use Rattle.std.specs.Prelude.{◌≡◌, ℕ, List, [], ◌∷◌, ◌++◌, Option, None, Some, Result, Ok, Err, OnOk}
use mathlib.Core.List.{IsPrefix}
use Rattle.ejson_value.specs.declared.change.Change.{Change}
use Rattle.ejson_value.specs.declared.change.Publish.{Publish}
use Rattle.ejson_value.specs.Rows.{Rows}
use Rattle.history_model.specs.declared.entry.Entry.{Entry}
use Rattle.program_steps.specs.declared.outcome.Status.{Status}
use Rattle.pass_log.specs.History.{longer}
use Rattle.session_model.specs.Subscriptions.{cursor_of}
use Rattle.session_laws.specs.declared.fault.EventFault.TheVariants as fault
use Rattle.session_laws.specs.Session.{ASession}
use Rattle.session_laws.specs.Events.{Outcome, Takes, Handles, Loads, Advances, Feeds, Learns, Refuses, Sends, Closes}
use Rattle.shared_session.specs.Held.{AHeld, StandsFor}

-- the texts that it stands for stay
abbrev pub Keeps : AHeld → AHeld → Type 0
Keeps old new = (taken sent : List (List ℕ)) → StandsFor taken sent old → StandsFor taken sent new

-- the pass meets the note: its list is the longer one, which begins with both
pub record Meets (note : List Entry) (old new : AHeld) : Type 0 where
  pub list : new.list ≡ longer old.list note
  pub own : IsPrefix old.list new.list
  pub theirs : IsPrefix note new.list

-- ---- events that need no store

-- a text is taken: it is one text more
pub record TakesHeld (t : List ℕ) (old new : AHeld) (result : Outcome) : Type 0 where
  pub takes : Takes t old.session new.session result
  pub list : new.list ≡ old.list
  pub stands : OnOk result ((taken sent : List (List ℕ)) → StandsFor taken sent old → StandsFor (taken ++ t ∷ []) sent new)

pub record HandlesHeld (old new : AHeld) (result : Outcome) : Type 0 where
  pub handles : Handles old.session new.session result
  pub list : new.list ≡ old.list
  pub keeps : Keeps old new

abbrev pub StandsWith : Option (List ℕ) → AHeld → AHeld → Type 0
StandsWith None old new = Keeps old new
StandsWith (Some t) old new = (taken sent : List (List ℕ)) → StandsFor taken sent old → StandsFor taken (sent ++ t ∷ []) new

-- a text is sent: it is one text more that was
pub record SendsHeld (old new : AHeld) (result : Option (List ℕ)) : Type 0 where
  pub sends : Sends old.session new.session result
  pub list : new.list ≡ old.list
  pub stands : StandsWith result old new

pub record ClosesHeld (old new : AHeld) : Type 0 where
  pub closes : Closes old.session new.session
  pub list : new.list ≡ old.list
  pub keeps : Keeps old new

-- ---- events with something of the store, and a note that has it

pub record LoadsHeld (sub place : ℕ) (rows : Rows) (note : List Entry) (old new : AHeld) (result : Outcome) : Type 0 where
  pub meets : Meets note old new
  pub loads : Loads sub place rows old.session new.session result
  pub keeps : Keeps old new

-- the subscription doesn't show the place at which the batch or the news begin
pub record IsElsewhere (old new : ASession) (result : Outcome) : Type 0 where
  pub idle : result ≡ Err fault.Idle
  pub same : new ≡ old

abbrev pub AdvancesFrom : ℕ → ℕ → ℕ → List Change → ASession → ASession → Outcome → Type 0
AdvancesFrom sub from count changes old new result =
    (cursor_of sub old.carried.own.subs ≡ Some from → Advances sub from count changes old new result)
    × ((cursor_of sub old.carried.own.subs ≡ Some from → ⊥) → IsElsewhere old new result)

pub record AdvancesHeld (sub from count : ℕ) (changes : List Change) (note : List Entry) (old new : AHeld) (result : Outcome) : Type 0 where
  pub meets : Meets note old new
  pub advances : AdvancesFrom sub from count changes old.session new.session result
  pub keeps : Keeps old new

abbrev pub FeedsFrom : ℕ → ℕ → ℕ → List Publish → ASession → ASession → Outcome → Type 0
FeedsFrom sub from count news old new result =
    (cursor_of sub old.carried.own.subs ≡ Some from → Feeds sub count news old new result)
    × ((cursor_of sub old.carried.own.subs ≡ Some from → ⊥) → IsElsewhere old new result)

pub record FeedsHeld (sub from count : ℕ) (news : List Publish) (note : List Entry) (old new : AHeld) (result : Outcome) : Type 0 where
  pub meets : Meets note old new
  pub feeds : FeedsFrom sub from count news old.session new.session result
  pub keeps : Keeps old new

pub record LearnsHeld (k : ℕ) (status : Status) (note : List Entry) (old new : AHeld) (result : Outcome) : Type 0 where
  pub meets : Meets note old new
  pub learns : Learns k status old.session new.session result
  pub keeps : Keeps old new

pub record RefusesHeld (k place : ℕ) (note : List Entry) (old new : AHeld) (result : Outcome) : Type 0 where
  pub meets : Meets note old new
  pub refuses : Refuses k place old.session new.session result
  pub keeps : Keeps old new
