-- What a message that is handled makes of a session.
use Rattle.std.specs.Prelude.{ℕ, List, [], ◌∷◌, Option, Some, None}
use Rattle.merge_model.specs.Publishing.{Call, apply, drop_sub}
use Rattle.value_model.specs.Val.{Entries}
use Rattle.ejson_value.specs.declared.key.Key.{Key}
use Rattle.ddp_messages.specs.ClientMessage.{ClientMessage}
use Rattle.method_queue.specs.Queue.{Queue, taken, started}
use Rattle.session_core.specs.session_model.Fits.{item_for}
use Rattle.session_core.specs.session_state.declared.own.Step.{Step}
use Rattle.session_core.specs.session_state.declared.own.Step.TheVariants as step
use Rattle.session_core.specs.declared.adding.Addition.{Addition}
use Rattle.session_core.specs.Asked.{IsAddition}
use Rattle.session_core.specs.session_laws.Session.{ASession}

-- the addition is that of the item which is made of the message, whose text has this place
abbrev pub IsNextBy : ℕ → ClientMessage → ASession → Addition → Type 0
IsNextBy place message s a = IsAddition s.carried.number s.carried.own place (item_for s.carried.app s.carried.number s.carried.own message) a

-- the addition is that of the first message
abbrev pub IsNext : List ℕ → List ClientMessage → ASession → Option Addition → Type 0
IsNext [] ms s a = ⊥
IsNext (place ∷ places) [] s a = ⊥
IsNext (place ∷ places) (message ∷ ms) s None = ⊥
IsNext (place ∷ places) (message ∷ ms) s (Some a) = IsNextBy place message s a

-- the call of the merge that goes with a step
abbrev pub gone_by : Step → Call Key Entries
gone_by (step.Close s) = drop_sub s
gone_by s = apply 0 []

-- the first message waits no longer, and if it is a call, that call runs and blocks
abbrev pub passed : Option ℕ → Queue → Queue
passed None q = taken q
passed (Some k) q = started (taken q) k
