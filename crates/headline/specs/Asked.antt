-- A client that sends no text of its own asks for each of its calls once.
use Rattle.std.specs.Prelude.{◌≡◌, ℕ, List, Result, Ok, Err}
use Rattle.value_model.specs.Val.{text}
use Rattle.ddp_messages.specs.declared.fault.MsgFault.{MsgFault}
use Rattle.ddp_messages.specs.ClientMessage.{ClientMessage}
use Rattle.world_invariant_laws.specs.session_model.Taking.{Taken, at_once, to_queue}
use Rattle.headline.specs.Known.{method_in}

-- ---- one text more

-- what a session makes of a text is the message that the text is
abbrev pub IsOf : Result ClientMessage MsgFault → Taken → Type 0
IsOf r (at_once i) = Unit {0}
IsOf r (to_queue m) = r ≡ Ok m

abbrev pub answer_in : List ℕ → Result ClientMessage MsgFault → ℕ
answer_in id (Ok m) = method_in id m
answer_in id (Err e) = 0
