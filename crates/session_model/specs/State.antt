-- What the items of a journal leave of a session.
use Rattle.std.specs.Prelude.{ℕ, suc, ◌+◌, max, List, [], ◌∷◌, ◌++◌, Bool, true, false, Option, Some, None}
use Rattle.value_model.specs.Val.{Val}
use Rattle.ddp_messages.specs.ClientMessage.{ClientMessage}
use Rattle.publication.specs.Cursors.{ACursors}
use Rattle.session_model.specs.Items.{Item, id_of, name_of, params_of}
use Rattle.session_model.specs.Items as item
use Rattle.session_model.specs.Subscriptions.{Live, cursor_of, loaded, advanced, closed}
use Rattle.session_model.specs.Methods.{running, refused, finished, Method, Blocking, freed, turned, fire}

pub record State : Type 0 where
  -- a `connect` was taken: of this session's version, or of another one
  pub connected : Bool
  pub failed : Bool
  -- the live subscriptions, and how many were opened
  pub subs : List Live
  pub opened : ℕ
  -- the calls, and the one that blocks
  pub methods : List Method
  pub blocking : Option Blocking
  -- the greatest place of the history at which a method finished or a subscription was
  pub reach : ℕ

abbrev pub started : State
started = record { connected = false; failed = false; subs = []; opened = 0; methods = []; blocking = None; reach = 0 }

abbrev pub or_zero : Option ℕ → ℕ
or_zero None = 0
or_zero (Some n) = n

-- a subscription that is opened may not show less than what was shown or finished before
abbrev pub opening : State → ℕ → ClientMessage → ACursors → Live
opening st s message cursors =
    record { sub = s; id = id_of message; name = name_of message; params = params_of message; cursors = cursors; floor = st.reach; cursor = None }

abbrev pub calling : ℕ → ClientMessage → Val → Blocking
calling k message seed = record { k = k; method = name_of message; params = params_of message; seed = seed }

-- what the item does
abbrev pub own_after : State → Item → State
own_after st item.connect = record st { connected = true }
own_after st item.fail = record st { failed = true }
own_after st (item.subscribe s message cursors) = record st { subs = st.subs ++ opening st s message cursors ∷ []; opened = suc st.opened }
own_after st (item.load s place) = record st { subs = loaded s place st.subs; reach = max st.reach place }
own_after st (item.advance s count) = record st { subs = advanced s count st.subs; reach = max st.reach (or_zero (cursor_of s st.subs) + count) }
own_after st (item.close s message) = record st { subs = closed s st.subs }
own_after st (item.call k message seed) =
    record st { methods = st.methods ++ record { id = id_of message; phase = running } ∷ []; blocking = Some (calling k message seed) }
own_after st (item.refused k place) = record st { methods = turned k refused st.methods; blocking = freed k st.blocking }
own_after st (item.unblocked k) = record st { blocking = freed k st.blocking }
own_after st (item.finished k place) = record st { methods = turned k (finished place) st.methods; blocking = freed k st.blocking; reach = max st.reach place }
own_after st i = st

-- and then each finished call is told whose fence is open
abbrev pub after : State → Item → State
after st i = let own = own_after st i in record own { methods = fire own.subs own.methods }

abbrev pub state_from : State → List Item → State
state_from st [] = st
state_from st (i ∷ items) = state_from (after st i) items

abbrev pub state_of : List Item → State
state_of items = state_from started items
