-- One act of a client that is visited, and which acts may be made again and again.
use Rattle.std.specs.Prelude.{◌≡◌, ℕ, List, map, Bool, true, false, Result, Ok, Err}
use Rattle.app_model.specs.App.{App}
use Rattle.connection.specs.world_model.declared.events.Act.{Act}
use Rattle.connection.specs.world_model.declared.events.Act.TheVariants as act
use Rattle.connection.specs.world_model.declared.events.Answer.{Answer}
use Rattle.connection.specs.world_model.declared.events.Answer.TheVariants as answer
use Rattle.connection.specs.world_model.Acts.{outcome}
use Rattle.world_rounds_laws.specs.Visits.{Side, can_on, act_on}
use Rattle.world_rounds_laws.specs.Loops.{waiting_in, upward_in, queue_in, outbox_in, downward_in}
use Rattle.world_rounds_laws.specs.Steps.{left_in}
use Rattle.connection.specs.connection_laws.Connection.{as_conn}
use Rattle.world_core.specs.Visit.{AVisit, side, IsReady, IsLed, IsSame}

-- the act was made
pub record IsMade (a : Act) (v w : AVisit) : Type 0 where
  pub led : IsLed v w
  pub can : can_on v.machine.app (side v) a ≡ true
  pub leads : act_on v.machine.app a (side v) ≡ side w

-- only what publications tell may have changed
pub record IsLeft (v w : AVisit) : Type 0 where
  pub same : IsSame v w
  pub ready : IsReady w

abbrev pub Answered : Act → AVisit → AVisit → Answer → Type 0
Answered a v w answer.Done = IsMade a v w
Answered a v w o = IsLeft v w × (outcome v.machine.app v.machine.history (as_conn v.client) a ≡ o)

abbrev pub AnswersTo : {E : Type 0} → Act → AVisit → AVisit → Result Answer E → Type 0
AnswersTo a v w (Ok o) = Answered a v w o
AnswersTo a v w (Err e) = IsLeft v w

-- whether it was made
abbrev pub Tried : Act → AVisit → AVisit → Bool → Type 0
Tried a v w true = IsMade a v w
Tried a v w false = IsLeft v w × (can_on v.machine.app (side v) a ≡ false)

abbrev pub Tries : {E : Type 0} → Act → AVisit → AVisit → Result Bool E → Type 0
Tries a v w (Ok flag) = Tried a v w flag
Tries a v w (Err e) = IsLeft v w

-- ---- acts that are made as often as there is something for them

abbrev pub is_repeatable : Act → Bool
is_repeatable act.Up = true
is_repeatable act.Recv = true
is_repeatable act.Handle = true
is_repeatable (act.Step k) = true
is_repeatable act.Send = true
is_repeatable act.Take = true
is_repeatable a = false

-- how much there is for the act
abbrev pub count_of : App → Act → Side → ℕ
count_of app act.Up x = waiting_in x
count_of app act.Recv x = upward_in x
count_of app act.Handle x = queue_in x
count_of app (act.Step k) x = left_in app k x
count_of app act.Send x = outbox_in x
count_of app act.Take x = downward_in x
count_of app a x = 0

-- ---- lists

abbrev pub learns_of : ℕ → List ℕ → List Act
learns_of place calls = map (λ k. act.Learn k place) calls
