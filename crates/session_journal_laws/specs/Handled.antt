-- What the message of an item says, where the item is made of it.
use Rattle.std.specs.Prelude.{◌≡◌, ℕ, false, Ok, is_some}
use Rattle.ddp_messages.specs.ClientMessage.{ClientMessage}
use Rattle.publication.specs.Cursors.{ACursors}
use Rattle.app_model.specs.App.{App}
use Rattle.session_model.specs.Publication.{making}
use Rattle.session_model.specs.Items.{id_of, name_of, params_of}
use Rattle.session_model.specs.Subscriptions.{sub_named, is_crowded}
use Rattle.session_model.specs.State.{State}

-- ---- a subscription that is opened

-- it has the next number, its id isn't that of a live one, and its cursors are those of its publication
pub record IsOpened (app : App) (st : State) (s : ℕ) (message : ClientMessage) (cursors : ACursors) : Type 0 where
  pub number : s ≡ st.opened
  pub new : is_some (sub_named (id_of message) st.subs) ≡ false
  pub room : is_crowded st.subs ≡ false
  pub made : making app (name_of message) (params_of message) ≡ Ok cursors
