-- One poll of a link.
use Rattle.std.specs.Prelude.{◌≡◌, ℕ, ◌++◌, Bool, true, false, List, [], ◌∷◌, Option, Some, drop}
use Rattle.duct.specs.declared.link.Polled.{Polled}
use Rattle.duct.specs.declared.link.Polled.TheVariants.{Message, Quiet, Closed, Failed, Memory}
use Rattle.duct.specs.Told.{Told}

abbrev pub poll_failed : Polled → Bool
poll_failed Failed = true
poll_failed _ = false

-- the oldest text; where none waits, whether more may come
abbrev pub next_of : List (List ℕ) → Bool → Polled
next_of (text ∷ texts) closed = Message text
next_of [] true = Closed
next_of [] false = Quiet

-- after a poll that gave this answer
abbrev pub polled : Told → Polled → Told
polled t answer = record t { waiting = drop 1 t.waiting; polls = t.polls ++ answer ∷ [] }

-- a poll gives what is next, and a text that it gives no longer waits; a failed one takes nothing, and one without memory changes nothing
abbrev pub Polls : Told → Polled → Option Told → Type 0
Polls before Memory after = after ≡ Some before
Polls before Failed after = after ≡ Some (record before { polls = before.polls ++ Failed ∷ [] })
Polls before answer after = (answer ≡ next_of before.waiting before.closed) × (after ≡ Some (polled before answer))

-- the texts among the answers
abbrev pub texts_in : List Polled → List (List ℕ)
texts_in [] = []
texts_in (Message text ∷ answers) = text ∷ texts_in answers
texts_in (_ ∷ answers) = texts_in answers

-- whether one of the answers is that the peer has closed
abbrev pub has_closed : List Polled → Bool
has_closed [] = false
has_closed (Closed ∷ answers) = true
has_closed (_ ∷ answers) = has_closed answers
