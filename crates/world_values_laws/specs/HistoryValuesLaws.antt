-- Laws: A history of values keeps documents, and its runs come to values.
use Rattle.std.specs.Prelude.{◌≡◌, ℕ, zero, suc, List, [], ◌∷◌, ◌++◌, take, codes, Bool, true, false, cond, Option, None, Some, IfSome, option_map}
use Rattle.std.specs.Prelude.{Ok, Err, refl, if◌then◌else◌}
use Rattle.std.specs.Ordering.{eq_by_cmp}
use Rattle.std.proofs.Common.{sym, subst, arith}
use Rattle.map_model.specs.Maps.{at, set}
use Rattle.map_model.specs.MapLaws.{at-put}
use Rattle.value_model.specs.Val.{Val, text, vals_of}
use Rattle.value_model.specs.Size.{is_name}
use Rattle.value_model.specs.Valid.{IsValue, AreValues}
use Rattle.ejson_value.specs.View.{view}
use Rattle.selector_match.specs.Query.{Query}
use Rattle.selector_match.specs.Reading as selector
use Rattle.modifier_apply.specs.Change.{Modification}
use Rattle.modifier_apply.specs.Reading as modifier
use Rattle.collection_store.specs.declared.operation.Op.{Op}
use Rattle.collection_store.specs.declared.operation.Op.TheVariants as operation
use Rattle.collection_store.specs.Outcome.{Outcome}
use Rattle.collection_store.specs.Applied.{Applied, applied}
use Rattle.program_steps.specs.declared.step.ProgramStep.{ProgramStep}
use Rattle.program_steps.specs.declared.step.Program.{Program}
use Rattle.world_model.specs.program_model.Run.{Run, if_over, begun, seed_text, New, new_of, if_ok}
use Rattle.world_model.specs.program_model.Steps.{stepped}
use Rattle.world_model.specs.history_model.declared.entry.Entry.{Entry}
use Rattle.world_model.specs.history_model.declared.entry.Entry.TheVariants as entry
use Rattle.world_model.specs.history_model.Operations.{insert_of, update_by, remove_of, update_in, operation_named, operation_in}
use Rattle.world_model.specs.history_model.HistoryLaws.{run_order}
use Rattle.world_model.specs.history_model.History.{Programs, RunKey, run_cmp, Begun, Runs, Held, nothing, later, room_in, setting_in, steps_of}
use Rattle.world_model.specs.history_model.History.{with_begin, with_stepped, no_steps, with_step, with_answer, with_operation, carried, held_from}
use Rattle.world_model.specs.history_model.History.{held}
use Rattle.world_values_laws.specs.ModifierValues.{IsModification}
use Rattle.world_values_laws.specs.Values.{AreSteps, HasValues, IsEntry, AreEntries, IsSound, IsBegun, IsHeld}
use Rattle.world_values_laws.specs.OperationValues.{IsOperation}
use Rattle.world_values_laws.specs.OperationValuesLaws.{applied_is}
use Rattle.world_values_laws.specs.StepValuesLaws.{new_is, modifier_is, stepped_is}
use Rattle.world_values_laws.specs.HistoryValues.{AreOperations}

-- ---- an administrator's operation

given_by : (collection : List ℕ) (o : Option New) → IfSome o (λ (new : New). IsOperation (operation.Insert collection new.id new.doc)) →
    AreOperations (insert_of collection o)
given_by collection None is = tt
given_by collection (Some new) is =
    elim new.is_drawn as (λ (b : Bool). AreOperations (cond b None (Some (operation.Insert collection new.id new.doc)))) [ true ↦ tt | false ↦ is ]

removal_is : (collection : List ℕ) (o : Option Query) → AreOperations (option_map (λ query. operation.Remove collection query) o)
removal_is collection None = tt
removal_is collection (Some query) = tt

update_is : (collection : List ℕ) (every : Bool) (q : Option Query) (m : Option Modification) → IfSome m IsModification →
    AreOperations (update_by collection every q m)
update_is collection every None m is = tt
update_is collection every (Some q) None is = tt
update_is collection every (Some q) (Some m) is = is

either_is : (b c : Bool) (x y : Option Op) → AreOperations x → AreOperations y → AreOperations (if b then x else (if c then y else None))
either_is true c x y f g = f
either_is false true x y f g = g
either_is false false x y f g = tt

updates : (collection : List ℕ) (every : Bool) (s m : Val) → IsValue m → AreOperations (update_in collection every s m)
updates collection every s m is = update_is collection every (if_ok (selector.reading s)) (if_ok (modifier.reading m)) (modifier_is m is)

named_is : (name collection : List ℕ) (rest : List Val) → AreValues (vals_of rest) → AreOperations (operation_named name collection rest)
named_is name collection [] all = tt
named_is name collection (v ∷ []) all =
    either_is (is_name name (codes "insert")) (is_name name (codes "remove")) (insert_of collection (new_of [] v)) (remove_of collection v)
    (given_by collection (new_of [] v) (new_is [] v all.0)) (removal_is collection (if_ok (selector.reading v)))
named_is name collection (s ∷ m ∷ []) all =
    either_is (is_name name (codes "update")) (is_name name (codes "updateAll")) (update_in collection false s m) (update_in collection true s m)
    (updates collection false s m all.1.0) (updates collection true s m all.1.0)
named_is name collection (s ∷ m ∷ v ∷ rest) all = tt

operation_is : (op : List Val) → AreValues (vals_of op) → AreOperations (operation_in op)
operation_is (text name ∷ text collection ∷ rest) all = named_is name collection rest all.1.1
operation_is op all = tt

-- ---- runs

run_put : (runs : Runs) (key : RunKey) (b : Begun) → IsBegun b → ((q : RunKey) → IfSome (at run_cmp runs q) IsBegun) → (q : RunKey) →
    IfSome (at run_cmp (set run_cmp runs key (Some b)) q) IsBegun
run_put runs key b one all q =
    subst (λ (o : Option Begun). IfSome o IsBegun) (sym (at-put run_order runs key b q))
    (elim (eq_by_cmp run_cmp q key) as (λ (c : Bool). IfSome (cond c (Some b) (at run_cmp runs q)) IsBegun) [ true ↦ one | false ↦ all q ])

begun_by : (left : List ProgramStep) (run : Run) → IsSound run → IsSound (if_over left run)
begun_by [] run s = record { params = s.params; left = s.left; outcome = tt }
begun_by (step ∷ left) run s = s

begun_is : (params : List Val) (seed : Val) (steps : List ProgramStep) → AreValues (vals_of params) → AreSteps steps → IsSound (begun params seed steps)
begun_is params seed steps all good =
    begun_by steps (record { params = params; seed = seed_text seed; left = steps; made = []; drawn = []; unblocked = false; outcome = None })
    (record { params = all; left = good; outcome = tt })

steps_are : (o : Option Program) → IfSome o (λ (program : Program). AreSteps program.steps) → AreSteps (steps_of o)
steps_are None is = tt
steps_are (Some program) is = is

-- ---- entries

begin_is : (app : Programs) (h : Held) (key : RunKey) (method : List ℕ) (params : List Val) (seed : Val) (o : Option Begun) → HasValues app →
    AreValues (vals_of params) → IsHeld h → IsHeld (with_begin app h key method params seed o)
begin_is app h key method params seed (Some b) good all is = record { rows = is.rows; runs = is.runs }
begin_is app h key method params seed None good all is =
    let b : Begun = record { run = begun params seed (steps_of (app.method method)); at = suc h.entries } in
    record {
      rows = is.rows;
      runs = run_put h.runs key b (begun_is params seed (steps_of (app.method method)) all (steps_are (app.method method) (good method))) is.runs;
    }

step_is : (app : Programs) (h : Held) (key : RunKey) (o : Option Begun) → IfSome o IsBegun → IsHeld h → IsHeld (with_step app h key o)
step_is app h key None b is = record { rows = is.rows; runs = is.runs }
step_is app h key (Some b) run is =
    let s = stepped (setting_in app h) h.rows b.run in
    let made = stepped_is (setting_in app h) h.rows b.run is.rows run in
    let next : Begun = record { run = s.run; at = suc h.entries } in
    elim (no_steps b.run.left) as (λ (c : Bool). IsHeld (cond c (later h) (with_stepped h key s))) [
      | true ↦ record { rows = is.rows; runs = is.runs }
      | false ↦ record { rows = made.rows; runs = run_put h.runs key next made.run is.runs }
    ]

answer_is : (app : Programs) (h : Held) (op : Op) (o : Outcome Applied) → IsOperation op → applied app.collections h.rows op (room_in h) ≡ o →
    IsHeld h → IsHeld (with_answer h o)
answer_is app h op (Ok a) good e is = record { rows = (applied_is app.collections h.rows op (room_in h) a good is.rows e).rows; runs = is.runs }
answer_is app h op (Err r) good e is = record { rows = is.rows; runs = is.runs }

admin_is : (app : Programs) (h : Held) (o : Option Op) → AreOperations o → IsHeld h → IsHeld (with_operation app h o)
admin_is app h None good is = record { rows = is.rows; runs = is.runs }
admin_is app h (Some op) good is = answer_is app h op (applied app.collections h.rows op (room_in h)) good refl is

carried_is : (app : Programs) (h : Held) (e : Entry) → HasValues app → IsEntry e → IsHeld h → IsHeld (carried app h e)
carried_is app h (entry.Begin session k method params seed) good v is =
    begin_is app h (session, k) method params (view seed) (at run_cmp h.runs (session, k)) good v is
carried_is app h (entry.Step session k) good v is = step_is app h (session, k) (at run_cmp h.runs (session, k)) (is.runs (session, k)) is
carried_is app h (entry.Admin op) good v is = admin_is app h (operation_in op) (operation_is op v) is

from_is : (app : Programs) (h : Held) (es : List Entry) → HasValues app → AreEntries es → IsHeld h → IsHeld (held_from app h es)
from_is app h [] good all is = is
from_is app h (e ∷ es) good all is = from_is app (carried app h e) es good all.1 (carried_is app h e good all.0 is)

-- what a history of values leads to
pub held_is : (app : Programs) (history : List Entry) → HasValues app → AreEntries history → IsHeld (held app history)
held_is app history good all = from_is app nothing history good all (record { rows = record { documents = tt; few = omega arith }; runs = λ key. tt })

-- ---- parts of a history

pub entries_take : (n : ℕ) (es : List Entry) → AreEntries es → AreEntries (take n es)
entries_take zero es all = tt
entries_take (suc n) [] all = tt
entries_take (suc n) (e ∷ es) all = (all.0, entries_take n es all.1)

pub entries-append : (es more : List Entry) → AreEntries es → AreEntries more → AreEntries (es ++ more)
entries-append [] more all rest = rest
entries-append (e ∷ es) more all rest = (all.0, entries-append es more all.1 rest)
