-- What the steps of a stub left so far, kept beside the view that they work on.
use Rattle.std.specs.Prelude.{◌≡◌, ℕ, ◌+◌, Bool, true, false, not, ◌&&◌, ◌||◌, nat_lt, List, [], ◌∷◌, ◌++◌, length, map, filter, Option, Some, None}
use Rattle.std.specs.Prelude.{is_some, is_none, option_map, option_and_then}
use Rattle.std.specs.List.{list_any}
use Rattle.std.specs.Ordering.{eq_by_cmp}
use Rattle.std.specs.BTreeMap.{insert_entry}
use Rattle.map_model.specs.Maps.{at, union}
use Rattle.map_model.specs.Changes.{changed}
use Rattle.value_model.specs.Val.{Val}
use Rattle.ejson_value.specs.declared.key.Key.{Key}
use Rattle.ejson_value.specs.declared.change.Change.{Change}
use Rattle.ejson_value.specs.Key.{key_cmp}
use Rattle.ejson_value.specs.Rows.{Rows}
use Rattle.ejson_value.specs.Changes.{changes_of}
use Rattle.selector_match.specs.Query.{Query}
use Rattle.selector_match.specs.Reading.{reading}
use Rattle.collection_store.specs.Limits.{bytes_of, old_bytes, new_bytes, max_documents, max_bytes}
use Rattle.collection_store.specs.Applied.{matching}
use Rattle.program_steps.specs.declared.step.ProgramStep.{ProgramStep}
use Rattle.program_steps.specs.declared.step.ProgramStep.TheVariants as step
use Rattle.program_steps.specs.Template.{filled}
use Rattle.program_steps.specs.Runs.{outcome_view}
use Rattle.program_model.specs.Run.{if_ok}
use Rattle.program_model.specs.Steps.{Stepped, stepped, client_setting}
use Rattle.program_run.specs.declared.run.Effect.{Effect}
use Rattle.program_run.specs.Progress.{Progress, run_of}
use Rattle.program_run.specs.Planned.{IsStepMade}
use Rattle.stub_simulation.specs.declared.draft.Draft.{Draft}
use Rattle.stub_simulation.specs.declared.fitting.Totals.{Totals}
use Rattle.program_model.specs.Touched.{keys_put, each_once}
use Rattle.stub_simulation.specs.Simulating.{changed_keys}

-- the view, with what is left at the keys that were changed
abbrev pub shown : Rows → List Key → Rows → Rows
shown view keys left = union key_cmp left (filter (λ row. not (list_any (eq_by_cmp key_cmp row.0) keys)) view)

abbrev pub is_changed : Draft → Key → Bool
is_changed draft key = list_any (eq_by_cmp key_cmp key) draft.traces.changed

abbrev pub shown_by : Rows → Draft → Rows
shown_by view draft = shown view draft.traces.changed draft.left

-- nothing is left but at the keys that were changed
abbrev pub IsWithin : Draft → Type 0
IsWithin draft = (k : Key) → is_changed draft k ≡ false → at key_cmp draft.left k ≡ None

-- rows put among others
abbrev pub all_put : Rows → Rows → Rows
all_put rows [] = rows
all_put rows (row ∷ more) = all_put (insert_entry key_cmp rows row.0 row.1) more

-- ---- what a step looks at

-- the selector that a template is filled to
abbrev pub selector_by : List Val → List (List ℕ) → Val → Option Query
selector_by params made template = option_and_then (λ v. if_ok (reading v)) (if_ok (filled params made template))

-- the documents that a selector holds of
abbrev pub IsFoundBy : Option Query → List ℕ → Rows → Rows → Type 0
IsFoundBy None collection rows window = Unit {0}
IsFoundBy (Some selector) collection rows window = window ≡ matching collection selector rows

-- the documents that a step looks at, but for the one that stands where it inserts
abbrev pub IsWindow : List Val → List (List ℕ) → Rows → ProgramStep → Rows → Type 0
IsWindow params made rows (step.Update collection selector modifier all) window = IsFoundBy (selector_by params made selector) collection rows window
IsWindow params made rows (step.Remove collection selector) window = IsFoundBy (selector_by params made selector) collection rows window
IsWindow params made rows (step.Require collection selector fault) window = IsFoundBy (selector_by params made selector) collection rows window
IsWindow params made rows _ window = window ≡ []

-- the step was made over the documents that it looks at
pub record IsMade (names : List (List ℕ)) (params : List Val) (steps : List ProgramStep) (view : Rows) (draft : Draft) (s : ProgramStep)
    (run next : Progress) (effect : Effect) : Type 0 where
  pub window : Rows
  pub looks : IsWindow params draft.made (shown_by view draft) s window
  pub left : Rows
  pub does : IsStepMade (stepped (client_setting names) window (run_of steps run)) steps left next effect
  pub told : option_map outcome_view effect.outcome ≡ next.outcome

-- ---- whether it is taken

-- how many documents there are before and after changes
abbrev pub old_count : List Change → ℕ
old_count changes = length (filter (λ (c : Change). is_some c.before) changes)

abbrev pub new_count : List Change → ℕ
new_count changes = length (filter (λ (c : Change). is_some c.after) changes)

-- there is this much once the changes are made
pub record AreTotals (before : Totals) (changes : List Change) (totals : Totals) : Type 0 where
  pub documents : totals.documents + old_count changes ≡ before.documents + new_count changes
  pub bytes : totals.bytes + old_bytes changes ≡ before.bytes + new_bytes changes

-- more than a store holds
abbrev pub is_past : ℕ → ℕ → Bool
is_past documents bytes = nat_lt max_documents documents || nat_lt max_bytes bytes

-- there is a first change, and nothing stands at its key
abbrev pub is_new : Rows → List Change → Bool
is_new rows [] = false
is_new rows (c ∷ cs) = is_none (at key_cmp rows c.key)

-- A step that made these changes over what it looks at, after which there is this much in all, is taken where all the rows have room for them and
-- for a new document no other one stands. A client's collections have no rules, so a guarded step is refused.
abbrev pub is_taken : Rows → ProgramStep → List Change → ℕ → ℕ → Bool
is_taken rows (step.Insert collection doc) changes documents bytes = is_new rows changes && not (is_past documents bytes)
is_taken rows (step.Update collection selector modifier all) changes documents bytes = not (is_past documents bytes)
is_taken rows (step.Guarded collection a) changes documents bytes = false
is_taken rows _ changes documents bytes = true

-- the ids that a step made, which touched these keys
abbrev pub new_ids : ProgramStep → List Key → List (List ℕ)
new_ids (step.Insert collection doc) touched = map (λ (k : Key). k.id) touched
new_ids _ touched = []

-- the draft has taken what the step did
pub record IsTaken (s : ProgramStep) (effect : Effect) (after : Totals) (old new : Draft) : Type 0 where
  pub keys : new.traces.changed ≡ keys_put old.traces.changed (changed_keys effect.changes)
  pub touched : new.traces.touched ≡ keys_put old.traces.touched effect.touched
  pub left : new.left ≡ changed key_cmp old.left (changes_of effect.changes)
  pub totals : new.totals ≡ after
  pub made : new.made ≡ old.made ++ new_ids s effect.touched
  pub over : new.is_over ≡ is_some effect.outcome

-- or the stub is over
abbrev pub IsFollowedIf : Bool → ProgramStep → Effect → Totals → Draft → Draft → Type 0
IsFollowedIf true s effect totals old new = IsTaken s effect totals old new
IsFollowedIf false s effect totals old new = new ≡ record old { is_over = true }

pub record IsFollowed (view : Rows) (s : ProgramStep) (effect : Effect) (old new : Draft) : Type 0 where
  pub totals : Totals
  pub are : AreTotals old.totals effect.changes totals
  pub follows : IsFollowedIf (is_taken (shown_by view old) s effect.changes totals.documents totals.bytes) s effect totals old new

-- ---- the whole stub

-- the documents that are left, and the keys of the changed and the touched ones
pub record IsLeftBy (view : Rows) (stepped : Stepped) (draft : Draft) : Type 0 where
  pub rows : stepped.rows ≡ shown_by view draft
  pub within : IsWithin draft
  pub changed : draft.traces.changed ≡ each_once (changed_keys stepped.changes)
  pub touched : draft.traces.touched ≡ each_once stepped.touched

-- where the stub goes on the run is as far as its own
pub record GoesOn (params : List Val) (steps : List ProgramStep) (stepped : Stepped) (progress : Progress) (draft : Draft) : Type 0 where
  pub run : run_of steps progress ≡ stepped.run
  pub made : draft.made ≡ progress.made
  pub called_with : progress.params ≡ params

pub record IsDraft (view : Rows) (params : List Val) (steps : List ProgramStep) (stepped : Stepped) (progress : Progress) (draft : Draft) : Type 0 where
  pub left : IsLeftBy view stepped draft
  pub documents : draft.totals.documents ≡ length stepped.rows
  pub bytes : draft.totals.bytes ≡ bytes_of stepped.rows
  pub going : draft.is_over ≡ false → GoesOn params steps stepped progress draft
  pub over : draft.is_over ≡ true → stepped.run.left ≡ []

-- where the run and the draft stood for what was made so far, they stand then for what this makes of it
abbrev pub CarriesOn : Rows → List Val → List ProgramStep → (Stepped → Stepped) → Progress → Draft → Progress → Draft → Type 0
CarriesOn view params steps goes run draft next new =
    (so_far : Stepped) → IsDraft view params steps so_far run draft → IsDraft view params steps (goes so_far) next new
