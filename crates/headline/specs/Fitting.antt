-- The messages of a session fit its client: `connected` or `failed` comes first and once, and each message about a document fits the documents that
-- those before it lead to.
use Rattle.std.specs.Prelude.{◌≡◌, ℕ, List, [], ◌∷◌, Bool, false, Option, Some, None, IfSome}
use Rattle.map_model.specs.Maps.{at, set}
use Rattle.map_model.specs.Differences.{Step, taken, all_taken}
use Rattle.merge_model.specs.Publishing.{apply}
use Rattle.value_model.specs.Val.{Val}
use Rattle.value_model.specs.Order.{text_cmp}
use Rattle.view_model.specs.Views.{refusal}
use Rattle.ejson_value.specs.declared.key.Key.{Key}
use Rattle.ejson_value.specs.Key.{key_cmp}
use Rattle.ejson_value.specs.Messages.{said}
use Rattle.ejson_value.specs.Rows.{Rows}
use Rattle.ddp_messages.specs.ServerMessage.{ServerMessage}
use Rattle.ddp_messages.specs.ServerMessage as server
use Rattle.program_steps.specs.Runs.{failed}
use Rattle.client_model.specs.Taking.{early_refusal, session_in}
use Rattle.world_invariant_laws.specs.session_model.State.{State}
use Rattle.world_invariant_laws.specs.session_model.Shown.{Calls}
use Rattle.world_invariant_laws.specs.session_model.Data.{data_in}
use Rattle.world_invariant_laws.specs.session_model.Out.{about, updated}

-- ---- messages about documents

-- each fits what is there by then
abbrev pub AllFit : Rows → List (Key × Step (List ℕ) Val) → Type 0
AllFit rows [] = Unit {0}
AllFit rows (m ∷ ms) = (refusal (at key_cmp rows m.0) m.1 ≡ None) × AllFit (set key_cmp rows m.0 (taken text_cmp (at key_cmp rows m.0) m.1)) ms

abbrev pub FitAt : Rows → List (Key × Step (List ℕ) Val) → Key → Type 0
FitAt rows ms q = IfSome (at key_cmp ms q) (λ s. refusal (at key_cmp rows q) s ≡ None)

-- ---- all messages

-- 3 before `connected`, 4 for a second answer to `connect`, 5 to 7 for a message that doesn't fit the documents
abbrev pub late_by : Rows → ServerMessage → Option ℕ
late_by rows (server.connected session) = Some 4
late_by rows (server.failed version) = Some 4
late_by rows (server.about m) = refusal (at key_cmp rows (said m).0) (said m).1
late_by rows m = None

abbrev pub refusal_by : Option (List ℕ) → Rows → ServerMessage → Option ℕ
refusal_by None rows m = early_refusal m
refusal_by (Some name) rows m = late_by rows m

abbrev pub rows_in : Rows → ServerMessage → Rows
rows_in rows m = all_taken text_cmp key_cmp rows (data_in m)

-- no `ping`, and each `updated` has one id
abbrev pub IsPlain : ServerMessage → Type 0
IsPlain (server.ping id) = ⊥
IsPlain (server.updated ids) = (id : List ℕ) × (ids ≡ id ∷ [])
IsPlain m = Unit {0}

-- a client with this session and these documents refuses none of the messages, but for what it knows of its calls
abbrev pub Accepts : Option (List ℕ) → Rows → List ServerMessage → Type 0
Accepts session rows [] = Unit {0}
Accepts session rows (m ∷ ms) = ((refusal_by session rows m ≡ None) × IsPlain m) × Accepts (session_in session m) (rows_in rows m) ms

abbrev pub session_after : Option (List ℕ) → List ServerMessage → Option (List ℕ)
session_after session [] = session
session_after session (m ∷ ms) = session_after (session_in session m) ms

abbrev pub rows_after : Rows → List ServerMessage → Rows
rows_after rows [] = rows
rows_after rows (m ∷ ms) = rows_after (rows_in rows m) ms

-- ---- in a session that is connected

-- neither of the session nor of documents
abbrev pub IsQuiet : ServerMessage → Type 0
IsQuiet (server.connected session) = ⊥
IsQuiet (server.failed version) = ⊥
IsQuiet (server.about m) = ⊥
IsQuiet (server.ping id) = ⊥
IsQuiet (server.updated ids) = (id : List ℕ) × (ids ≡ id ∷ [])
IsQuiet m = Unit {0}

abbrev pub AreQuiet : List ServerMessage → Type 0
AreQuiet [] = Unit {0}
AreQuiet (m ∷ ms) = IsQuiet m × AreQuiet ms

-- ---- before

-- a session that isn't connected, and has refused a version or not
abbrev pub early : Bool → State
early was = record { connected = false; failed = was; subs = []; opened = 0; methods = []; blocking = None; reach = 0 }

abbrev pub AreIdle : Calls → Type 0
AreIdle [] = Unit {0}
AreIdle (call ∷ past) = (call ≡ apply 0 []) × AreIdle past
