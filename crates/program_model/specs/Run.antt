-- A run of a method's program: what it was called with, and how far it is.
use Rattle.std.specs.Prelude.{ℕ, List, [], ◌∷◌, ◌++◌, length, filter, Bool, true, false, ◌&&◌, codes, nat_lt, nat_le, Option, None, Some, Result, Ok}
use Rattle.std.specs.Prelude.{Err, option_and_then, if◌then◌else◌}
use Rattle.value_model.specs.Val.{Val, text, object, Entries, entries_of}
use Rattle.value_model.specs.Size.{is_name}
use Rattle.value_model.specs.Doc.{get, remove}
use Rattle.serde_json.specs.Written.{compact_text}
use Rattle.ejson_codec.specs.Written.{written}
use Rattle.ejson_value.specs.declared.fault.Fault.{Fault}
use Rattle.selector_match.specs.Query.{Query}
use Rattle.selector_match.specs.Reading as selector
use Rattle.modifier_apply.specs.Change.{Modification}
use Rattle.modifier_apply.specs.Reading as modifier
use Rattle.seed_ids.specs.DrawnId.{drawn_id}
use Rattle.program_steps.specs.declared.step.ProgramStep.{ProgramStep}
use Rattle.program_steps.specs.Template.{filled}
use Rattle.program_steps.specs.Runs.{Outcome, done, failed}

pub record Run : Type 0 where
  -- what the method was called with
  pub params : List Val
  -- the text that its ids are drawn from
  pub seed : List ℕ
  -- the steps that it has still to make; none once it has ended
  pub left : List ProgramStep
  -- the ids that it inserted, in order
  pub made : List (List ℕ)
  -- the collections that it drew ids for, one for each id
  pub drawn : List (List ℕ)
  -- it let the next message be handled (Meteor's `this.unblock`)
  pub unblocked : Bool
  -- what it came to, once it has ended
  pub outcome : Option Outcome

-- the text of a seed: its EJSON text
abbrev pub seed_text : Val → List ℕ
seed_text seed = compact_text (written seed)

-- a run with no step left has ended, without a result
abbrev pub if_over : List ProgramStep → Run → Run
if_over [] run = record run { outcome = Some (done None) }
if_over (step ∷ steps) run = run

abbrev pub gone_on : Run → Run
gone_on run = if_over run.left run

abbrev pub begun : List Val → Val → List ProgramStep → Run
begun params seed steps = gone_on (record { params = params; seed = seed_text seed; left = steps; made = []; drawn = []; unblocked = false; outcome = None })

abbrev pub ended : Outcome → Run → Run
ended outcome run = record run { left = []; outcome = Some outcome }

abbrev pub fails : Fault → Run → Run
fails fault run = ended (failed fault) run

-- ---- ids

-- how many ids the run has drawn for a collection
abbrev pub drawn_for : List ℕ → Run → ℕ
drawn_for collection run = length (filter (λ c. is_name c collection) run.drawn)

-- the id that it draws next for the collection
abbrev pub next_id : Run → List ℕ → List ℕ
next_id run collection = drawn_id run.seed collection (drawn_for collection run)

-- the longest id of a document
abbrev pub max_id : ℕ
max_id = 256

abbrev pub is_id : List ℕ → Bool
is_id id = nat_lt 0 (length id) && nat_le (length id) max_id

-- a document that is to be inserted: its id, whether this was drawn, and its fields
pub record New : Type 0 where
  pub id : List ℕ
  pub is_drawn : Bool
  pub doc : Entries

abbrev pub new_by : List ℕ → Entries → Option Val → Option New
new_by next fields None = Some (record { id = next; is_drawn = true; doc = fields })
new_by next fields (Some (text id)) = if is_id id then Some (record { id = id; is_drawn = false; doc = remove fields (codes "_id") }) else None
new_by next fields (Some v) = None

-- the document that a value is, with the id `next` where it has no `_id`
abbrev pub new_of : List ℕ → Val → Option New
new_of next (object fs) = new_by next (entries_of fs) (get (entries_of fs) (codes "_id"))
new_of next v = None

-- the run once it inserted the document
abbrev pub inserted : List ℕ → New → Run → Run
inserted collection new run = record run { made = run.made ++ new.id ∷ []; drawn = if new.is_drawn then run.drawn ++ collection ∷ [] else run.drawn }

-- ---- templates and what they are filled to

abbrev pub if_ok : {A E : Type 0} → Result A E → Option A
if_ok (Ok a) = Some a
if_ok (Err e) = None

abbrev pub filled_in : Run → Val → Option Val
filled_in run template = if_ok (filled run.params run.made template)

abbrev pub selector_in : Run → Val → Option Query
selector_in run template = option_and_then (λ v. if_ok (selector.reading v)) (filled_in run template)

abbrev pub modifier_in : Run → Val → Option Modification
modifier_in run template = option_and_then (λ v. if_ok (modifier.reading v)) (filled_in run template)

abbrev pub new_in : Run → List ℕ → Val → Option New
new_in run collection template = option_and_then (new_of (next_id run collection)) (filled_in run template)
