-- The entries of a world's history are made of values: those that its clients' texts and its administrator's operations had.
use Rattle.std.specs.Prelude.{List, [], ◌∷◌}
use Rattle.value_model.specs.Val.{vals_of}
use Rattle.value_model.specs.Valid.{AreValues}
use Rattle.ddp_messages.specs.ClientMessage.{ClientMessage}
use Rattle.ddp_messages.specs.Limits.{ClientHasValues}
use Rattle.world_invariant_laws.specs.session_model.Methods.{Blocking}

-- ---- messages

abbrev pub AreValued : List ClientMessage → Type 0
AreValued [] = Unit {0}
AreValued (m ∷ ms) = ClientHasValues m × AreValued ms

-- ---- calls

abbrev pub HaveValues : List Blocking → Type 0
HaveValues [] = Unit {0}
HaveValues (b ∷ bs) = AreValues (vals_of b.params) × HaveValues bs
