-- Each event leaves the session's application and its number.
use Rattle.std.specs.Prelude.{◌≡◌, ℕ, List, [], ◌∷◌, Option, None, Some, Ok, Err}
use Rattle.std.proofs.Common.{ap}
use Rattle.ejson_value.specs.declared.change.Change.{Change}
use Rattle.ejson_value.specs.declared.change.Publish.{Publish}
use Rattle.ejson_value.specs.Rows.{Rows}
use Rattle.ddp_messages.specs.ClientMessage.{ClientMessage}
use Rattle.program_steps.specs.declared.outcome.Status.{Status}
use Rattle.program_steps.specs.Runs.{End}
use Rattle.session_model.specs.Taking.{Taken, at_once, to_queue}
use Rattle.session_laws.specs.Session.{ASession}
use Rattle.session_laws.specs.Events.{Outcome, IsTakenAs, Takes, HasHandled, Handles, Loads, Advances, Feeds, IsLearnt, Learns, Refuses, Sends}

-- it is of the same application, and has the same number
pub record IsStill (old new : ASession) : Type 0 where
  pub app : new.carried.app ≡ old.carried.app
  pub number : new.carried.number ≡ old.carried.number

pub still_same : (old new : ASession) → new ≡ old → IsStill old new
still_same old new e = record { app = ap (λ (s : ASession). s.carried.app) e; number = ap (λ (s : ASession). s.carried.number) e }

taken_still : (x : Taken) (n : ℕ) (old new : ASession) → IsTakenAs x n old new → IsStill old new
taken_still (at_once i) n old new a = record { app = a.done.added.app; number = a.done.added.number }
taken_still (to_queue message) n old new a = record { app = ap (λ (s : ASession). s.carried.app) a.1; number = ap (λ (s : ASession). s.carried.number) a.1 }

pub takes_still : (t : List ℕ) (old new : ASession) (r : Outcome) → Takes t old new r → IsStill old new
takes_still t old new (Ok u) a = taken_still _ _ old new a.done
takes_still t old new (Err e) a = still_same old new a.same

handled_still : (places : List ℕ) (ms : List ClientMessage) (old new : ASession) → HasHandled places ms old new → IsStill old new
handled_still [] ms old new a = absurd a
handled_still (p ∷ ps) [] old new a = absurd a
handled_still (p ∷ ps) (m ∷ ms) old new a = record { app = a.done.added.app; number = a.done.added.number }

pub handles_still : (old new : ASession) (r : Outcome) → Handles old new r → IsStill old new
handles_still old new (Ok u) a = handled_still old.places old.carried.waiting old new a.done
handles_still old new (Err e) a = still_same old new a.same

pub loads_still : (sub place : ℕ) (rows : Rows) (old new : ASession) (r : Outcome) → Loads sub place rows old new r → IsStill old new
loads_still sub place rows old new (Ok u) a = record { app = a.done.done.added.app; number = a.done.done.added.number }
loads_still sub place rows old new (Err e) a = still_same old new a.same

pub advances_still : (sub from count : ℕ) (changes : List Change) (old new : ASession) (r : Outcome) → Advances sub from count changes old new r → IsStill old new
advances_still sub from count changes old new (Ok u) a = record { app = a.done.done.added.app; number = a.done.done.added.number }
advances_still sub from count changes old new (Err e) a = still_same old new a.same

pub feeds_still : (sub count : ℕ) (news : List Publish) (old new : ASession) (r : Outcome) → Feeds sub count news old new r → IsStill old new
feeds_still sub count news old new (Ok u) a = record { app = a.done.done.added.app; number = a.done.done.added.number }
feeds_still sub count news old new (Err e) a = still_same old new a.same

learnt_still : (k : ℕ) (o : Option End) (old new : ASession) → IsLearnt k o old new → IsStill old new
learnt_still k (Some end) old new a = record { app = a.added.added.app; number = a.added.added.number }
learnt_still k None old new a = record { app = a.added.added.app; number = a.added.added.number }

pub learns_still : (k : ℕ) (status : Status) (old new : ASession) (r : Outcome) → Learns k status old new r → IsStill old new
learns_still k status old new (Ok u) a = learnt_still k status.ended old new a.done
learns_still k status old new (Err e) a = still_same old new a.same

pub refuses_still : (k place : ℕ) (old new : ASession) (r : Outcome) → Refuses k place old new r → IsStill old new
refuses_still k place old new (Ok u) a = record { app = a.done.added.added.app; number = a.done.added.added.number }
refuses_still k place old new (Err e) a = still_same old new a.same

pub sends_still : (old new : ASession) (r : Option (List ℕ)) → Sends old new r → IsStill old new
sends_still old new None a = still_same old new a.same
sends_still old new (Some t) a = record { app = ap (λ (s : ASession). s.carried.app) a.0.rest; number = ap (λ (s : ASession). s.carried.number) a.0.rest }
