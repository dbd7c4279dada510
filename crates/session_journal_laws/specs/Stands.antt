-- What a session carries along, and what it stands for: the texts that it took, the moments of its store, and the texts that it sent.
use Rattle.std.specs.Prelude.{◌≡◌, ℕ, List, [], ◌∷◌, ◌++◌, length, map, Option, None, Some, option_and_then}
use Rattle.std.specs.Ordering.{nat_cmp}
use Rattle.map_model.specs.Maps.{at}
use Rattle.merge_model.specs.Publishing.{Call, shown, shown_since}
use Rattle.merge_model.specs.Kept.{Kept, merged, IsInOrder, IsAfter}
use Rattle.merge_model.specs.Kept as box
use Rattle.value_model.specs.Val.{Val, Entries}
use Rattle.value_model.specs.Order.{text_cmp}
use Rattle.ejson_value.specs.declared.key.Key.{Key}
use Rattle.ejson_value.specs.Key.{key_cmp}
use Rattle.ddp_messages.specs.ClientMessage.{ClientMessage}
use Rattle.ddp_messages.specs.ServerMessage.{ServerMessage}
use Rattle.app_model.specs.App.{App}
use Rattle.ddp_messages.specs.Texts.{server_text}
use Rattle.session_model.specs.Items.{Item}
use Rattle.session_model.specs.Methods.{Phase, finished, Method, phase_at, fire, all_told}
use Rattle.session_model.specs.State.{State, started, state_of}
use Rattle.session_model.specs.Moments.{Moment}
use Rattle.session_model.specs.Shown.{Calls, calls_of, difference}
use Rattle.session_model.specs.Out.{about, updated, out_texts, counts_from}
use Rattle.session_model.specs.Fits.{Fits}
use Rattle.session_model.specs.Answering.{Answers}
use Rattle.session_journal_laws.specs.declared.stored.Stored.{Stored}
use Rattle.session_journal_laws.specs.Resolved.{resolved, ArePlaced}

abbrev pub Box : Type 0
Box = List (Key × Kept (List ℕ) Val)

pub record Carried : Type 0 where
  -- the application, and the session's number
  pub app : App
  pub number : ℕ
  -- how many texts it took
  pub taken : ℕ
  -- the journal, and how many texts each item has
  pub journal : List Stored
  pub counts : List ℕ
  -- the texts that are to be sent, and the messages that are to be handled
  pub outbox : List (List ℕ)
  pub waiting : List ClientMessage
  -- its subscriptions and calls; the place at which each finished call had ended that is to be told; what it shows
  pub own : State
  pub fences : List (ℕ × ℕ)
  pub box : Box

-- ---- fences

-- the end of a finished call that is to be told
abbrev pub end_of : Phase → Option ℕ
end_of (finished place) = Some place
end_of p = None

abbrev pub armed_at : ℕ → List Method → Option ℕ
armed_at k ms = option_and_then end_of (phase_at k ms)

-- a fence is armed for each such call, and no other
abbrev pub AreArmed : Carried → Type 0
AreArmed s = (k : ℕ) → at nat_cmp s.fences k ≡ armed_at k s.own.methods

-- ---- what it stands for

abbrev pub items_of : List (List ℕ) → Carried → List Item
items_of taken s = map (resolved s.app s.number taken) s.journal

abbrev pub StandsFor : Calls → Box → Type 0
StandsFor past kept = box.Stands key_cmp text_cmp (shown key_cmp past) (shown_since key_cmp text_cmp past) kept

pub record Stands (taken : List (List ℕ)) (C : List Moment) (sent : List (List ℕ)) (s : Carried) : Type 0 where
  pub count : s.taken ≡ length taken
  pub placed : ArePlaced (length taken) s.journal
  pub fits : Fits s.app s.number C (items_of taken s)
  pub answers : Answers taken (items_of taken s) s.waiting
  pub own : s.own ≡ state_of (items_of taken s)
  pub shows : StandsFor (calls_of C (items_of taken s)) s.box
  pub texts : sent ++ s.outbox ≡ out_texts C s.number (items_of taken s)
  pub counts : s.counts ≡ counts_from C s.number [] started (items_of taken s)

-- a session that has taken nothing
abbrev pub new_session : App → ℕ → Carried
new_session app number =
    record { app = app; number = number; taken = 0; journal = []; counts = []; outbox = []; waiting = []; own = started; fences = []; box = [] }

-- ---- one item more

abbrev pub fired_state : State → State
fired_state own = record own { methods = fire own.subs own.methods }

-- the messages of an item that makes this of the subscriptions and calls, and says these words of its own
abbrev pub added_messages : State → List ServerMessage → Box → Box → List ServerMessage
added_messages own words old new = map about (difference (merged old) (merged new)) ++ (words ++ map updated (all_told own.subs own.methods))

-- what one more item makes of a session: no text, no moment and no plan is named here
pub record IsAdded (item : Stored) (call : Call Key Entries) (state : State) (words : List ServerMessage) (old new : Carried) : Type 0 where
  pub app : new.app ≡ old.app
  pub number : new.number ≡ old.number
  pub journal : new.journal ≡ old.journal ++ item ∷ []
  pub outbox : new.outbox ≡ old.outbox ++ map server_text (added_messages state words old.box new.box)
  pub counts : new.counts ≡ old.counts ++ length (added_messages state words old.box new.box) ∷ []
  pub own : new.own ≡ fired_state state
  pub box : IsAfter key_cmp text_cmp call old.box new.box
  pub order : IsInOrder key_cmp text_cmp new.box
