-- What is learnt of a call, a text that is sent, and the end of a session keep what the session stands for.
use Rattle.std.specs.Prelude.{◌≡◌}
use Rattle.session_model.specs.Items.{Item}
use Rattle.session_model.specs.State.{State, own_after}
use Rattle.session_model.specs.Shown.{subject}
use Rattle.session_laws.specs.Added.{IsTextless}

-- ---- an item of no text that leaves the subscriptions

pub record IsQuiet (i : Item) : Type 0 where
  pub textless : IsTextless i
  pub subject : subject i ≡ 0
  pub subs : (st : State) → (own_after st i).subs ≡ st.subs
