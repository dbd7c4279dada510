-- What a client knows of its session and its calls is what the messages that it took say.
use Rattle.std.specs.Prelude.{◌≡◌, ℕ, ◌<◌, ◌≤◌, ◌^◌, List, [], length, decimal, Option, Some, None, is_some}
use Rattle.ddp_messages.specs.ServerMessage.{ServerMessage}
use Rattle.client_model.specs.Client.{Call}
use Rattle.client_model.specs.Taking.{call_at, behind}
use Rattle.world_invariant_laws.specs.session_model.Counting.{one_if, results, updateds}

-- ---- numbers

pub record IsNumber (id : List ℕ) (n count : ℕ) : Type 0 where
  pub is : id ≡ decimal n
  pub within : n ≤ count

-- the numbers of one id
abbrev pub numbers_by : Option ℕ → List ℕ
numbers_by o = behind o []

-- ---- one call is changed

abbrev pub has_outcome : Option Call → ℕ
has_outcome None = 0
has_outcome (Some call) = one_if (is_some call.outcome)

abbrev pub has_update : Option Call → ℕ
has_update None = 0
has_update (Some call) = one_if call.is_updated

-- ---- what was told

abbrev pub many : ℕ
many = 2 ^ 64

-- each call has its result, and its `updated`, as often as the messages say
pub record AreCounted (calls : List Call) (ms : List ServerMessage) : Type 0 where
  pub few : length calls < many
  pub outcomes : (n : ℕ) → n < many → has_outcome (call_at calls n) ≡ results (decimal n) ms
  pub updates : (n : ℕ) → n < many → has_update (call_at calls n) ≡ updateds (decimal n) ms
