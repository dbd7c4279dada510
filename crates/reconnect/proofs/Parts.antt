-- What is asked for, by its parts.
use Rattle.std.specs.Prelude.{◌≡◌, ℕ, List, Option, Some, None, refl}
use Rattle.ddp_messages.specs.ClientMessage as client
use Rattle.ddp_messages.specs.ClientMessage.{ClientMessage}
use Rattle.reconnect_model.specs.Revival.{Revival}
use Rattle.reconnect_parts.specs.Asking.{asked_if, parts, with_parts}
use Rattle.reconnect.specs.Parts.{asked_parts}

pub asked_is : (r : Revival) (text : List ℕ) (m : Option ClientMessage) → asked_if r text m ≡ with_parts r (asked_parts r.queued text m (parts r))
asked_is r text None = refl
asked_is r text (Some (client.sub id name params)) = refl
asked_is r text (Some (client.unsub id)) = refl
asked_is r text (Some (client.method id name params seed)) = refl
asked_is r text (Some (client.connect version support)) = refl
asked_is r text (Some (client.ping id)) = refl
asked_is r text (Some (client.pong id)) = refl
