-- A client that is gone has nothing to do where its runs have ended, and then no entry of another session gives it anything.
use Rattle.std.specs.Prelude.{◌≡◌, ℕ, ◌-◌, List, [], ◌∷◌, false}
use Rattle.map_model.specs.Maps.{at}
use Rattle.app_model.specs.App.{App}
use Rattle.headline.specs.history_model.declared.entry.Entry.{Entry}
use Rattle.headline.specs.history_model.History.{run_cmp, goes_on}
use Rattle.headline.specs.world_model.Store.{held_in}
use Rattle.headline.specs.world_invariant_laws.Lift.{is_by}

-- no entry is of this session
abbrev pub AreNotBy : ℕ → List Entry → Type 0
AreNotBy n [] = Unit {0}
AreNotBy n (e ∷ es) = (is_by n e ≡ false) × AreNotBy n es

-- ---- a client that is gone

-- its runs have ended
abbrev pub HasEnded : App → List Entry → ℕ → Type 0
HasEnded app history n = (k : ℕ) → goes_on (at run_cmp (held_in app history).runs (n, k)) ≡ false
