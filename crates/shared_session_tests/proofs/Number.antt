-- A session keeps its number while it takes texts and handles them.
use Rattle.std.specs.Prelude.{◌≡◌, ℕ, List, [], ◌∷◌, Ok, Err}
use Rattle.std.proofs.Common.{ap}
use Rattle.ddp_messages.specs.ClientMessage.{ClientMessage}
use Rattle.session_model.specs.Taking.{Taken, at_once, to_queue}
use Rattle.session_laws.specs.Session.{ASession}
use Rattle.session_laws.specs.Events.{Outcome, IsTakenAs, Takes, HasHandled, Handles}

abbrev pub HasSameNumber : ASession → ASession → Type 0
HasSameNumber old new = new.carried.number ≡ old.carried.number

same : (old new : ASession) → new ≡ old → HasSameNumber old new
same old new e = ap (λ (s : ASession). s.carried.number) e

taken : (x : Taken) (n : ℕ) (old new : ASession) → IsTakenAs x n old new → HasSameNumber old new
taken (at_once i) n old new a = a.done.added.number
taken (to_queue message) n old new a = ap (λ (s : ASession). s.carried.number) a.1

pub takes : (t : List ℕ) (old new : ASession) (r : Outcome) → Takes t old new r → HasSameNumber old new
takes t old new (Ok u) a = taken _ _ old new a.done
takes t old new (Err e) a = same old new a.same

handled : (places : List ℕ) (ms : List ClientMessage) (old new : ASession) → HasHandled places ms old new → HasSameNumber old new
handled [] ms old new a = absurd a
handled (p ∷ ps) [] old new a = absurd a
handled (p ∷ ps) (m ∷ ms) old new a = a.done.added.number

pub handles : (old new : ASession) (r : Outcome) → Handles old new r → HasSameNumber old new
handles old new (Ok u) a = handled old.places old.carried.waiting old new a.done
handles old new (Err e) a = same old new a.same
