-- What the simulation of a method does to a client's view of the documents (Meteor's guide, "Methods", "Optimistic UI").
use Rattle.std.specs.Prelude.{◌≡◌, true, ℕ, List, map, All}
use Rattle.std.specs.List.{list_any}
use Rattle.std.specs.Ordering.{eq_by_cmp}
use Rattle.map_model.specs.Maps.{at}
use Rattle.map_model.specs.Changes.{changed}
use Rattle.value_model.specs.Val.{Val}
use Rattle.ejson_value.specs.declared.key.Key.{Key}
use Rattle.ejson_value.specs.declared.change.Change.{Change}
use Rattle.ejson_value.specs.Key.{key_cmp}
use Rattle.ejson_value.specs.Rows.{Rows}
use Rattle.ejson_value.specs.Changes.{changes_of}
use Rattle.ejson_value.specs.ChangeLaws.{AllFit, HaveDistinctKeys}
use Rattle.app_model.specs.App.{App, method}
use Rattle.program_model.specs.Steps.{Stepped, simulated}
use Rattle.program_model.specs.Touched.{each_once}
use Rattle.stub_simulation.specs.declared.simulation.Simulated.{Simulated}

abbrev pub changed_keys : List Change → List Key
changed_keys changes = map (λ (c : Change). c.key) changes

-- what the stub of a method makes of the view, up to its end or its first refusal
abbrev pub simulation : App → List ℕ → List Val → Val → Rows → Stepped
simulation app name params seed view = simulated app.collections (method app name) params seed view

abbrev pub change_at : Rows → Rows → Key → Change
change_at view left key = record { key = key; before = at key_cmp view key; after = at key_cmp left key }

-- The changes are of different documents, each of what the view has, and lead from it to what the stub makes of it; they are of
-- documents that it touches.
pub record IsSimulated (view : Rows) (stepped : Stepped) (s : Simulated) : Type 0 where
  pub leads : changed key_cmp view (changes_of s.changes) ≡ stepped.rows
  pub fit : AllFit view s.changes
  pub apart : HaveDistinctKeys s.changes
  pub among : All (λ (c : Change). list_any (eq_by_cmp key_cmp c.key) s.touched ≡ true) s.changes
  pub touched : s.touched ≡ each_once stepped.touched
