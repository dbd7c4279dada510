-- The texts of a client that sends none as it stands: its `connect`, and then one text for each thing that it is asked for, so that there is one
-- method for each of its calls.
use Rattle.std.specs.Prelude.{◌≡◌, ℕ, ◌+◌, ◌≤◌, List, [], ◌∷◌, codes, Bool, true, false, Result, Ok, is_some}
use Rattle.value_model.specs.Val.{text}
use Rattle.value_model.specs.Size.{is_name}
use Rattle.ddp_messages.specs.Answers.{client_answer}
use Rattle.ddp_messages.specs.declared.fault.MsgFault.{MsgFault}
use Rattle.ddp_messages.specs.ClientMessage.{ClientMessage}
use Rattle.ddp_messages.specs.ClientMessage as client
use Rattle.client_model.specs.Taking.{number_of}
use Rattle.client_model.specs.Asking.{call_limit}
use Rattle.headline.specs.session_model.Items.{Item}
use Rattle.headline.specs.session_model.Items as item
use Rattle.headline.specs.session_model.Taking.{Taken, at_once, to_queue, taken_text}
use Rattle.headline.specs.session_model.Counting.{one_if}
use Rattle.headline.specs.Calls.{many}
use Rattle.headline.specs.Asked.{answer_in}

-- ---- what a session makes of a text

abbrev pub IsNoMethod : Result ClientMessage MsgFault → Type 0
IsNoMethod (Ok (client.method id name params seed)) = ⊥
IsNoMethod r = Unit {0}

-- a `connect` of another version
abbrev pub IsForeign : Result ClientMessage MsgFault → Type 0
IsForeign (Ok (client.connect version support)) = is_name version (codes "1") ≡ false
IsForeign r = ⊥

-- it is the message that the text is; a version is refused of a `connect` of another one, and what else is answered at once is no method, but where
-- a text is refused
abbrev pub IsOf : Result ClientMessage MsgFault → Taken → Type 0
IsOf r (at_once (item.bad reason offending)) = Unit {0}
IsOf r (at_once item.fail) = IsForeign r
IsOf r (at_once i) = IsNoMethod r
IsOf r (to_queue m) = r ≡ Ok m

-- ---- the methods among texts

-- how many of the texts are a method with this id
abbrev pub asks_for : List ℕ → List (List ℕ) → ℕ
asks_for id [] = 0
asks_for id (t ∷ ts) = answer_in id (client_answer t) + asks_for id ts

-- among the texts there is one method for each call
abbrev pub HasCalls : List (List ℕ) → ℕ → Type 0
HasCalls texts calls = (id : List ℕ) → asks_for id texts ≡ one_if (is_some (number_of calls id))

-- ---- versions

abbrev pub is_fail : Item → Bool
is_fail item.fail = true
is_fail i = false

-- it is no `connect` of another version
abbrev pub IsMild : Result ClientMessage MsgFault → Type 0
IsMild (Ok (client.connect version support)) = is_name version (codes "1") ≡ true
IsMild r = Unit {0}

abbrev pub AreMild : List (List ℕ) → Type 0
AreMild [] = Unit {0}
AreMild (t ∷ ts) = IsMild (client_answer t) × AreMild ts

-- ---- the first text

-- a text that a session takes first, and is connected by it
pub record IsFirst (t : List ℕ) : Type 0 where
  pub none : (id : List ℕ) → answer_in id (client_answer t) ≡ 0
  pub mild : IsMild (client_answer t)
  pub taken : taken_text false t ≡ at_once item.connect

-- ---- what is asked for

-- the texts of a client that made so many calls
pub record IsAsking (texts : List (List ℕ)) (calls : ℕ) : Type 0 where
  pub first : List ℕ
  pub more : List (List ℕ)
  pub begins : texts ≡ first ∷ more
  pub opens : IsFirst first
  pub mild : AreMild texts
  pub few : calls ≤ call_limit
  pub each : HasCalls texts calls

-- it is neither a method nor a `connect`
pub record IsOther (t : List ℕ) : Type 0 where
  pub none : (id : List ℕ) → answer_in id (client_answer t) ≡ 0
  pub mild : IsMild (client_answer t)
