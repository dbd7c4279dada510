-- The texts of a journal read as its messages.
use Rattle.std.specs.Prelude.{◌≡◌, ℕ, List, [], ◌∷◌, Bool, not, Ok}
use Rattle.std.specs.Ordering.{eq_by_cmp}
use Rattle.map_model.specs.Maps.{at}
use Rattle.map_model.specs.Differences.{is_there}
use Rattle.value_model.specs.Val.{Val, Entries}
use Rattle.value_model.specs.Order.{text_cmp, compare}
use Rattle.ddp_messages.specs.Answers.{server_answer}
use Rattle.ddp_messages.specs.Limits.{IsShort, ServerHasValues, ServerKeepsLimits}
use Rattle.ddp_messages.specs.ServerMessage.{ServerMessage}
use Rattle.session_model.specs.Texts.{message_in}
use Rattle.session_model.specs.Subscriptions.{Live}
use Rattle.session_model.specs.Methods.{Method}
use Rattle.session_model.specs.State.{State}

-- ---- messages within the limits

abbrev pub IsReadable : ServerMessage → Type 0
IsReadable m = ServerHasValues m × ServerKeepsLimits m

abbrev pub AreReadable : List ServerMessage → Type 0
AreReadable [] = Unit {0}
AreReadable (m ∷ ms) = IsReadable m × AreReadable ms

-- ---- of documents

abbrev pub is_new : Entries → List ℕ × Val → Bool
is_new a e = not (is_there text_cmp (eq_by_cmp compare) e.1 (at text_cmp a e.0))

-- ---- of ids

abbrev pub AreLiveShort : List Live → Type 0
AreLiveShort [] = Unit {0}
AreLiveShort (l ∷ ls) = IsShort l.id × AreLiveShort ls

abbrev pub AreCallsShort : List Method → Type 0
AreCallsShort [] = Unit {0}
AreCallsShort (m ∷ ms) = IsShort m.id × AreCallsShort ms

abbrev pub AreIdsShort : List (List ℕ) → Type 0
AreIdsShort [] = Unit {0}
AreIdsShort (id ∷ ids) = IsShort id × AreIdsShort ids

-- the ids of a session's subscriptions and calls are short
pub record AreShort (st : State) : Type 0 where
  pub live : AreLiveShort st.subs
  pub calls : AreCallsShort st.methods

-- ---- texts that read

-- the text is that of a message
abbrev pub IsRead : List ℕ → Type 0
IsRead t = server_answer t ≡ Ok (message_in t)

abbrev pub AreRead : List (List ℕ) → Type 0
AreRead [] = Unit {0}
AreRead (t ∷ ts) = IsRead t × AreRead ts
