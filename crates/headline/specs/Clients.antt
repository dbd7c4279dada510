-- What an act of a client and its session leaves to be done by them.
use Rattle.std.specs.Prelude.{◌≡◌, ℕ, ◌+◌, List, [], ◌∷◌, sum_by, true, false, Some, is_some, IfSome}
use Rattle.app_model.specs.App.{App}
use Rattle.client_model.specs.Taking.{told_text}
use Rattle.client_model.specs.Asking.{can_take}
use Rattle.world_model.specs.history_model.declared.entry.Entry.{Entry}
use Rattle.world_model.specs.session_model.Items.{Item}
use Rattle.world_model.specs.session_model.Items as item
use Rattle.world_model.specs.session_model.Subscriptions.{Live}
use Rattle.world_model.specs.session_model.Methods.{running, Method, Blocking, is_blocked_by, phase_at}
use Rattle.world_model.specs.session_model.Counting.{is_running as runs_on, one_if}
use Rattle.world_model.specs.session_model.State.{State}
use Rattle.world_model.specs.Conn.{Refusal, Conn, state_in}
use Rattle.world_model.specs.Acts.{is_kept, takes}
use Rattle.world_model.specs.Settle.{cursor_left}
use Rattle.headline.specs.Runs.{has_run}

-- ---- texts that are to be sent and taken

-- no client is asked anything by the text
abbrev pub IsCalm : List ℕ → Type 0
IsCalm t = (c : Conn) → (told_text c.client t).waiting ≡ c.client.waiting

abbrev pub AreCalm : List (List ℕ) → Type 0
AreCalm [] = Unit {0}
AreCalm (t ∷ ts) = IsCalm t × AreCalm ts

-- ---- cursors

abbrev pub left_by : ℕ → Live → ℕ
left_by entries l = cursor_left entries l.cursor

-- ---- calls that run

abbrev pub run_of : Method → ℕ
run_of m = one_if (runs_on m.phase)

abbrev pub state_learns : State → ℕ
state_learns st = sum_by run_of st.methods + one_if (is_some st.blocking)

-- ---- what holds of a client and its session

-- a refusal that is kept is of the call that blocks, which runs; no text that comes down to a client that takes texts asks anything
pub record IsTidy (c : Conn) : Type 0 where
  pub kept : IfSome c.kept (λ (r : Refusal). is_blocked_by r.k (state_in c).blocking ≡ true)
  pub runs : IfSome (state_in c).blocking (λ (b : Blocking). phase_at b.k (state_in c).methods ≡ Some running)
  pub calm : can_take c.client ≡ true → AreCalm c.downward

-- ---- learning

-- what is learnt, and why
pub data IsNews (app : App) (history : List Entry) (c : Conn) (k : ℕ) : Item → Type 0 where
  of_refusal : (place : ℕ) → is_kept k c.kept ≡ true → is_blocked_by k (state_in c).blocking ≡ true → phase_at k (state_in c).methods ≡ Some running →
      IsNews app history c k (item.refused k place)
  of_end : (place : ℕ) → is_kept k c.kept ≡ false → has_run app history c.number k ≡ true → phase_at k (state_in c).methods ≡ Some running →
      IsNews app history c k (item.finished k place)
  of_unblock : is_kept k c.kept ≡ false → has_run app history c.number k ≡ true → is_blocked_by k (state_in c).blocking ≡ true →
      IsNews app history c k (item.unblocked k)
