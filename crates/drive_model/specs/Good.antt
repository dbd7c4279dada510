-- THE PROMISE OF A DRIVE: what holds of the world that is left once its threads have ended.
use Rattle.std.specs.Prelude.{◌≡◌, ◌⊎◌, ℕ, suc, ◌==◌, List, [], ◌∷◌, ◌++◌, Bool, true, false, not, ◌||◌, Some, IfSome, if◌then◌else◌}
use Rattle.std.specs.List.{list_any, list_all}
use Rattle.std.specs.Map.{keys_of}
use Rattle.map_model.specs.Maps.{at}
use Rattle.value_model.specs.Val.{Val}
use Rattle.value_model.specs.Order.{text_cmp}
use Rattle.app_model.specs.App.{App}
use Rattle.history_model.specs.declared.entry.Entry.{Entry}
use Rattle.history_model.specs.declared.entry.Entry.TheVariants as entry
use Rattle.history_model.specs.History.{Programs, Held, nothing, RunKey, Begun, Runs, carried, can_follow, no_steps, IsLegal}
use Rattle.session_model.specs.Items.{Item}
use Rattle.session_model.specs.Items as item
use Rattle.session_model.specs.Out.{out_texts}
use Rattle.session_model.specs.Fits.{Fits}
use Rattle.session_model.specs.Answering.{Answers}
use Rattle.world_model.specs.Store.{programs, held_in, moments}
use Rattle.world_model.specs.Conn.{Conn, is_full}
use Rattle.world_model.specs.World.{World, Conns, conn_of}
use Rattle.world_model.specs.Headline.{standing, begun_in, is_bad, IsAnswered, IsQuiescent, IsWhole}
use Rattle.client_script.specs.declared.line.Line.{Line}
use Rattle.drive_script.specs.Scripts.{Scripted}
use Rattle.drive_model.specs.Courses.{HasRun}

-- ---- the history

-- the entries of operations on the store, one after another; those that are refused are left out
abbrev pub admitted : Programs → Held → List (List Val) → List Entry
admitted app h [] = []
admitted app h (op ∷ ops) =
    if can_follow app h (entry.Admin op) then entry.Admin op ∷ admitted app (carried app h (entry.Admin op)) ops else admitted app h ops

abbrev pub is_operation : Entry → Bool
is_operation (entry.Admin op) = true
is_operation e = false

-- it begins with the script's operations, and has no others
pub record BeginsWith (app : App) (ops : List (List Val)) (history : List Entry) : Type 0 where
  pub rest : List Entry
  pub is : history ≡ admitted (programs app) nothing ops ++ rest
  pub others : list_any is_operation rest ≡ false

-- each run of the session has made its last step
abbrev pub have_ended : ℕ → Runs → Bool
have_ended number runs = list_all (λ (r : RunKey × Begun). not (r.0.0 == number) || no_steps r.1.run.left) runs

-- ---- a session

-- The journal answers the texts that the session took, and what each item says of the store was so: an item that refuses a call names a length of
-- the history at which there was no room for it. The history begins the calls that were handled and not refused, in order, each once, with its
-- method, its parameters and its seed. Each run has ended, and the texts of the journal were sent.
pub record IsServed (app : App) (history : List Entry) (c : Conn) : Type 0 where
  pub fits : Fits app c.number (moments app c.number history) c.items
  pub answers : Answers c.received c.items []
  pub once : begun_in c.number history ≡ standing c.items
  pub ended : have_ended c.number (held_in app history).runs ≡ true
  pub sent : c.sent ≡ out_texts (moments app c.number history) c.number c.items

-- its client took a text that is too long, or one of the client's texts was refused
abbrev pub IsSpoilt : Conn → Type 0
IsSpoilt c = (c.client.broken ≡ Some 1) ⊎ (list_any is_bad c.items ≡ true)

-- Each request has its answers. And the session is quiescent, and its client has, key by key and field by field, the merge of what its live
-- subscriptions publish of the store, queried anew.
pub record IsDone (app : App) (history : List Entry) (c : Conn) : Type 0 where
  pub answered : IsAnswered c.number (moments app c.number history) c.items
  pub whole : IsSpoilt c ⊎ (IsQuiescent history c × IsWhole app history c)

-- the session of the client of this name, whose script has these lines
pub record IsGoodSession (app : App) (history : List Entry) (name : List ℕ) (limited : Bool) (lines : List Line) (c : Conn) : Type 0 where
  pub served : IsServed app history c
  pub run : HasRun app name limited lines c
  pub done : IsDone app history c

-- ---- the report

abbrev pub refuses : Item → Bool
refuses (item.refused k place) = true
refuses i = false

-- the session met a limit: its journal is full, or the history had no room for one of its calls
abbrev pub meets_limit : Conn → Bool
meets_limit c = is_full c || list_any refuses c.items

abbrev pub some_limit : Conns → Bool
some_limit conns = list_any (λ (e : List ℕ × Conn). meets_limit e.1) conns

-- the sessions are numbered from n on
abbrev pub AreNumbered : ℕ → Conns → Type 0
AreNumbered n [] = Unit {0}
AreNumbered n (e ∷ es) = (e.1.number ≡ n) × AreNumbered (suc n) es

-- The history is legal and begins with the script's operations. The clients are those of the script, by name, and their sessions are numbered
-- from 1. And of each that has room in its journal all is so that holds of a good session.
pub record IsGood (app : App) (script : Scripted) (w : World) : Type 0 where
  pub served : w.app ≡ app
  pub legal : IsLegal (programs app) w.history
  pub operations : BeginsWith app script.admins w.history
  pub names : keys_of w.conns ≡ keys_of script.clients
  pub numbers : AreNumbered 1 w.conns
  pub sessions : (name : List ℕ) (lines : List Line) → at text_cmp script.clients name ≡ Some lines →
      IfSome (conn_of w name) (λ (c : Conn). (is_full c ≡ true) ⊎ IsGoodSession app w.history name (some_limit w.conns) lines c)
