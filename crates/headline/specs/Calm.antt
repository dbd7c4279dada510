-- No text of a session asks its client for anything.
use Rattle.std.specs.Prelude.{List, [], ◌∷◌}
use Rattle.ddp_messages.specs.ServerMessage.{ServerMessage}
use Rattle.ddp_messages.specs.ServerMessage as server

-- ---- messages

-- it asks for no answer
abbrev pub IsMild : ServerMessage → Type 0
IsMild (server.ping id) = ⊥
IsMild m = Unit {0}

abbrev pub AreMild : List ServerMessage → Type 0
AreMild [] = Unit {0}
AreMild (m ∷ ms) = IsMild m × AreMild ms
