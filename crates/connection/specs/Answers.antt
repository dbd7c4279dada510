-- What is answered to an act and to a request, and what it leaves.
use Rattle.std.specs.Prelude.{◌≡◌, ℕ, List, Bool, true, false, Option, None, Result, Ok, Err, IsErr}
use Rattle.app_model.specs.App.{App}
use Rattle.connection.specs.history_model.declared.entry.Entry.{Entry}
use Rattle.connection.specs.session_laws.declared.fault.EventFault.{EventFault}
use Rattle.connection.specs.session_laws.declared.fault.EventFault.TheVariants as fault
use Rattle.connection.specs.world_model.declared.events.Act.{Act}
use Rattle.connection.specs.world_model.declared.events.Act.TheVariants as act
use Rattle.connection.specs.world_model.declared.events.Answer.{Answer}
use Rattle.connection.specs.world_model.declared.events.Answer.TheVariants as answer
use Rattle.connection.specs.world_model.Acts.{outcome}
use Rattle.connection.specs.world_model.Asks.{Ask, can_ask}
use Rattle.connection.specs.connection_laws.Connection.{AConnection, as_conn, IsConnection}
use Rattle.connection.specs.connection_laws.Acting.{IsDone}
use Rattle.connection.specs.connection_laws.Asks.{IsAsked}

-- ---- acts

-- the act is made where it is answered so, and else nothing changes
abbrev pub Acts : App → List ℕ → List Entry → Act → AConnection → AConnection → Answer → Type 0
Acts app name history a old new answer.Done = IsDone app name history a old new
Acts app name history a old new o = (outcome app history (as_conn old) a ≡ o) × (new ≡ old)

-- over this application and this history
abbrev pub AnswersIn : {E : Type 0} → App → List Entry → Act → AConnection → AConnection → Result Answer E → Type 0
AnswersIn app history a old new (Ok o) = (name : List ℕ) → IsConnection app name history old → Acts app name history a old new o
AnswersIn app history a old new (Err e) = new ≡ old

-- over each history, where the act needs no store
abbrev pub Answers : {E : Type 0} → Act → AConnection → AConnection → Result Answer E → Type 0
Answers a old new (Ok o) = (app : App) (name : List ℕ) (history : List Entry) → IsConnection app name history old → Acts app name history a old new o
Answers a old new (Err e) = new ≡ old

-- a text that the client takes, with the number of its refusal where it refuses the text
abbrev pub IsBroken : AConnection → Answer → Option ℕ → Type 0
IsBroken new answer.Done o = new.own.client.broken ≡ o
IsBroken new a o = o ≡ None

abbrev pub Takes : {E : Type 0} → AConnection → AConnection → Result (Answer × Option ℕ) E → Type 0
Takes old new (Ok o) =
    ((app : App) (name : List ℕ) (history : List Entry) → IsConnection app name history old → Acts app name history act.Take old new o.0) × IsBroken new o.0 o.1
Takes old new (Err e) = new ≡ old

-- what an event of the session that is refused is answered
abbrev pub IsRefusal : {E : Type 0} → EventFault → Result Answer E → Type 0
IsRefusal fault.Idle r = r ≡ Ok answer.Idle
IsRefusal fault.JournalFull r = r ≡ Ok answer.JournalFull
IsRefusal fault.QueueFull r = r ≡ Ok answer.QueueFull
IsRefusal fault.Memory r = IsErr r

-- ---- requests

-- the client does what it is asked for where it is answered so, and else nothing changes
abbrev pub DoesAsked : App → List ℕ → List Entry → Ask → AConnection → AConnection → Bool → Type 0
DoesAsked app name history a old new true = IsAsked app name history a old new
DoesAsked app name history a old new false = (can_ask (as_conn old) a ≡ false) × (new ≡ old)

-- the same, whatever application, name and history the client is kept over
abbrev pub DoesOver : Ask → AConnection → AConnection → Bool → Type 0
DoesOver a old new b = (app : App) (name : List ℕ) (history : List Entry) → IsConnection app name history old → DoesAsked app name history a old new b

abbrev pub Does : {E : Type 0} → Ask → AConnection → AConnection → Result Bool E → Type 0
Does a old new (Ok b) = DoesOver a old new b
Does a old new (Err e) = new ≡ old
