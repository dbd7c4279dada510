-- The steps of a session's runs: each of its calls makes steps until it can make no more.
use Rattle.std.specs.Prelude.{◌≡◌, ℕ, ◌==◌, List, [], ◌∷◌, ◌++◌, replicate, true}
use Rattle.std.specs.List.{list_any}
use Rattle.map_model.specs.Maps.{at}
use Rattle.app_model.specs.App.{App}
use Rattle.world_model.specs.history_model.History.{run_cmp, Runs}
use Rattle.world_model.specs.history_model.LimitLaws.{left_of}
use Rattle.rounds_model.specs.Rounds.{made}
use Rattle.world_model.specs.declared.events.Act.{Act}
use Rattle.world_model.specs.declared.events.Act.TheVariants as act
use Rattle.world_model.specs.Store.{held_in}
use Rattle.world_model.specs.Settle.{steps}
use Rattle.world_rounds_laws.specs.Visits.{Side, act_on}

-- how many steps the run of a session's call has left
abbrev pub left_at : Runs → ℕ → ℕ → ℕ
left_at runs n k = left_of (at run_cmp runs (n, k))

abbrev pub left_in : App → ℕ → Side → ℕ
left_in app k x = left_at (held_in app x.history).runs x.conn.number k

-- ---- one call after another

abbrev pub steps_made : App → ℕ → Side → Side
steps_made app k x = made (act_on app) (replicate (left_in app k x) (act.Step k)) x

abbrev pub all_stepped : App → List ℕ → Side → Side
all_stepped app [] x = x
all_stepped app (k ∷ ks) x = all_stepped app ks (steps_made app k x)

-- the acts, by what the runs have left at the beginning
abbrev pub steps_by : ℕ → List ℕ → Runs → List Act
steps_by n [] runs = []
steps_by n (k ∷ ks) runs = replicate (left_at runs n k) (act.Step k) ++ steps_by n ks runs

abbrev pub steps_for : App → List ℕ → Side → List Act
steps_for app ks x = steps_by x.conn.number ks (held_in app x.history).runs

-- ---- the phase lists the same

-- each run that has steps left is of one of these calls
abbrev pub Covers : ℕ → List ℕ → Runs → Type 0
Covers n ks runs = (k : ℕ) → (left_at runs n k ≡ 0 → ⊥) → list_any (λ j. k == j) ks ≡ true
