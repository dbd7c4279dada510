-- Entries that were copied out of a store.
use Rattle.std.specs.Prelude.{◌≡◌, ℕ, suc, ◌+◌, ◌-◌, ◌<◌, ◌≤◌, List, [], ◌∷◌, ◌++◌, length, take, drop}
use Rattle.std.specs.List.{flat_map}
use Rattle.ejson_value.specs.declared.change.Change.{Change}
use Rattle.history_model.specs.declared.entry.Entry.{Entry}
use Rattle.history_model.specs.History.{Programs, changes_between}
use Rattle.history_log.specs.declared.batch.Batch.{Batch}
use Rattle.app_model.specs.App.{App}
use Rattle.shared_store.specs.Store.{over}
use Rattle.store_machine.specs.State.{MachineState, programs}

-- how many entries stand before the first, and what each changed
pub record ACopy : Type 0 where
  pub first : ℕ
  pub changes : List (List Change)

-- the changes of some entries, one after another
abbrev pub all_of : List (List Change) → List Change
all_of all = flat_map (λ (changes : List Change). changes) all

-- how many stand before the next one
abbrev pub next_of : ACopy → ℕ
next_of c = c.first + length c.changes

-- the changes of so many of them, from a place of the history on
abbrev pub changes_in : ACopy → ℕ → ℕ → List Change
changes_in c place count = all_of (take count (drop (place - c.first) c.changes))

-- with one entry more
abbrev pub with_one : ACopy → List Change → ACopy
with_one c changes = record c { changes = c.changes ++ changes ∷ [] }

-- these are the changes of the entries from a place on
abbrev pub AreFrom : Programs → List Entry → ℕ → List (List Change) → Type 0
AreFrom app history place [] = place ≤ length history
AreFrom app history place (changes ∷ all) = (changes ≡ changes_between app history place 1) × AreFrom app history (suc place) all

-- the entries are of this history
abbrev pub AreCopiedOf : ACopy → MachineState → Type 0
AreCopiedOf c m = AreFrom (programs m.app) m.history c.first c.changes

-- these are the changes of the entry behind them
pub record IsNext (c : ACopy) (m : MachineState) (changes : List Change) : Type 0 where
  pub there : next_of c < length m.history
  pub made : changes ≡ changes_between (programs m.app) m.history (next_of c) 1

-- these are the changes of so many entries of the list, behind the first ones
pub record IsBatchOf (app : App) (list : List Entry) (from count : ℕ) (batch : Batch) : Type 0 where
  pub begins : batch.from ≡ from
  pub counts : batch.count ≡ count
  pub within : batch.from + batch.count ≤ length list
  pub made : batch.changes ≡ changes_between (programs app) list batch.from batch.count

-- there is one entry more
pub record IsOneMore (old new : ACopy) : Type 0 where
  pub begins : new.first ≡ old.first
  pub more : length new.changes ≡ length old.changes + 1

-- they are the entries of the list behind the first `from`: so many, or fewer where the list ends
pub record AreBehind (app : App) (from most : ℕ) (list : List Entry) (c : ACopy) : Type 0 where
  pub begins : c.first ≡ from
  pub some : from < next_of c
  pub few : length c.changes ≤ most
  pub are : AreCopiedOf c (over app list)
  pub ends : length c.changes < most → length list ≤ next_of c
