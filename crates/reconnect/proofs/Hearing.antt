-- A text that no rule refuses.
use Rattle.std.specs.Prelude.{◌≡◌, ℕ, List, None, Ok}
use Rattle.std.proofs.Common.{sym, ap, ◌∙◌}
use Rattle.ddp_messages.specs.ServerMessage.{ServerMessage}
use Rattle.ddp_messages.specs.Answers.{server_answer}
use Rattle.reconnect_model.specs.Revival.{Revival}
use Rattle.reconnect_model.specs.Giving.{Heard, noted, passed, revived_when, heard_message, heard_unless}

pub heard_is : (r q : Revival) (text : List ℕ) (m : ServerMessage) (h : Heard) → server_answer text ≡ Ok m → q ≡ noted r m → revived_when (passed q text m) ≡ h → heard_unless r text None ≡ h
heard_is r q text m h reads is gives = ap (heard_message r text) reads ∙ ap (λ p. revived_when (passed p text m)) (sym is) ∙ gives
