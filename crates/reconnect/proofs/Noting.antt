-- What was given, while the documents that a session sent stand for it.
use Rattle.std.specs.Prelude.{◌≡◌, Bool, true, false, cond, refl}
use Rattle.ejson_value.specs.Rows.{Rows}
use Rattle.ddp_messages.specs.ServerMessage.{ServerMessage}
use Rattle.reconnect_model.specs.Giving.{documents}

-- a message about a document is given where the epoch is revived
pub given_noted : (is_revived : Bool) (copy given : Rows) (m : ServerMessage) → cond is_revived (documents copy m) given ≡ cond is_revived (documents (cond is_revived copy given) m) (cond is_revived copy given)
given_noted true copy given m = refl
given_noted false copy given m = refl

-- another one leaves what was given
pub given_still : (is_revived : Bool) (copy given : Rows) → cond is_revived copy given ≡ cond is_revived (cond is_revived copy given) (cond is_revived copy given)
given_still true copy given = refl
given_still false copy given = refl
