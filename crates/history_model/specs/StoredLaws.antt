-- The documents of every history keep to the limits of a document.
use Rattle.std.specs.Prelude.{◌≡◌, ℕ, List, [], ◌∷◌, map, filter, length, codes, Bool, true, false, cond, ◌&&◌, nat_lt, nat_le, Option, None, Some}
use Rattle.std.specs.Prelude.{IfSome, is_some, option_map, option_and_then, Ok, Err, refl, if◌then◌else◌}
use Rattle.std.specs.List.{range_with_len}
use Rattle.std.specs.Map.{remove_entry}
use Rattle.std.specs.BTreeMap.{is_at, insert_entry}
use Rattle.std.specs.declared.cmp.Ordering.TheVariants.{Less, Equal, Greater}
use Rattle.std.specs.Ordering.{match_ordering}
use Rattle.std.proofs.Common.{sym, subst}
use Rattle.std.proofs.lemmas.List.{length-map}
use Rattle.map_model.specs.Maps.{at, set}
use Rattle.value_model.specs.Val.{Val, text, object, Entries, entries_of}
use Rattle.value_model.specs.Doc.{get, remove}
use Rattle.value_model.specs.Size.{is_name}
use Rattle.ejson_value.specs.declared.key.Key.{Key}
use Rattle.ejson_value.specs.declared.change.Change.{Change}
use Rattle.ejson_value.specs.declared.fault.Fault.{Fault}
use Rattle.ejson_value.specs.Key.{key_cmp, key_exact, key_of}
use Rattle.ejson_value.specs.Rows.{Rows, rows_of}
use Rattle.ejson_value.specs.View.{view}
use Rattle.ejson_value.specs.ResultLaws.{made-ok, and_then-ok}
use Rattle.ejson_value.specs.Results.{with_both}
use Rattle.selector_match.specs.Query.{Query}
use Rattle.selector_match.specs.Reading as selector
use Rattle.selector_match.specs.Holds.{holds}
use Rattle.modifier_apply.specs.Change.{Modification, replaced_by, changed_by}
use Rattle.modifier_apply.specs.Modified.{modified, same}
use Rattle.modifier_apply.specs.Reading as modifier
use Rattle.seed_ids.specs.DrawnId.{drawn_id, letter_at}
use Rattle.collection_store.specs.declared.fault.OpFault.TheVariants as fault
use Rattle.collection_store.specs.declared.operation.Op.{Op}
use Rattle.collection_store.specs.declared.operation.Op.TheVariants as operation
use Rattle.collection_store.specs.Outcome.{Outcome}
use Rattle.collection_store.specs.Limits.{document, is_too_large, is_full}
use Rattle.collection_store.specs.Applied.{Row, Plan, Applied, is_listed, after, done, matching, chosen, insertion, insert_plan, update_plan}
use Rattle.collection_store.specs.Applied.{or_refused, change_if_differs, change_to, updated, with_change, all_updated, remove_plan, removal}
use Rattle.collection_store.specs.Applied.{plan_for, if_room, applied}
use Rattle.program_steps.specs.declared.rules.Action.{Action}
use Rattle.program_steps.specs.declared.rules.Action.TheVariants as action
use Rattle.program_steps.specs.declared.rules.Rules.{Rules}
use Rattle.program_steps.specs.declared.step.ProgramStep.{ProgramStep}
use Rattle.program_steps.specs.declared.step.ProgramStep.TheVariants as step
use Rattle.program_steps.specs.Runs.{done as ended_with}
use Rattle.program_model.specs.declared.verdict.Verdict.{Verdict}
use Rattle.program_model.specs.declared.verdict.Verdict.TheVariants as verdict
use Rattle.program_model.specs.Guarded.{removes, judged, or_none, id_of}
use Rattle.program_model.specs.Run.{Run, gone_on, ended, New, new_by, new_of, next_id, is_id, inserted, if_ok, drawn_for, filled_in, selector_in}
use Rattle.program_model.specs.Run.{modifier_in, new_in}
use Rattle.program_model.specs.Steps.{Setting, Stepped, by_answer, if_made, if_found, Writing, insert_writing, writing, writing_in, update_of}
use Rattle.program_model.specs.Steps.{operation_of, by_verdict, by_rules, done_step, stepped_by, stepped}
use Rattle.history_model.specs.declared.entry.Entry.{Entry}
use Rattle.history_model.specs.declared.entry.Entry.TheVariants as entry
use Rattle.history_model.specs.Operations.{insert_of, update_by, remove_of, update_in, operation_named, operation_in}
use Rattle.history_model.specs.History.{Programs, RunKey, run_cmp, Begun, Held, nothing, later, room_in, setting_in, with_begin, with_stepped}
use Rattle.history_model.specs.History.{no_steps, with_step, with_answer, with_operation, carried, held_from, held}
use Rattle.history_model.specs.Bounds.{IsStored, AreStored}

-- ---- rows

stored_put : (rows : Rows) (key : Key) (doc : Entries) → AreStored rows → IsStored key doc → AreStored (insert_entry key_cmp rows key doc)
stored_put [] key doc all one = (one, tt)
stored_put (row ∷ rows) key doc all one =
    elim (key_cmp key row.0)
    as (λ o. key_cmp key row.0 ≡ o → AreStored (match_ordering o ((key, doc) ∷ row ∷ rows) ((row.0, doc) ∷ rows) (row ∷ insert_entry key_cmp rows key doc))) [
      | Less ↦ λ e. (one, all)
      | Equal ↦ λ e. (subst (λ k. IsStored k doc) (key_exact key row.0 e) one, all.1)
      | Greater ↦ λ e. (all.0, stored_put rows key doc all.1 one)
    ] refl

stored_removed : (test : Key → Bool) (rows : Rows) → AreStored rows → AreStored (remove_entry test rows)
stored_removed test [] all = tt
stored_removed test (row ∷ rows) all = elim (test row.0) as
    (λ b. AreStored (cond b rows (row ∷ remove_entry test rows))) [ true ↦ all.1 | false ↦ (all.0, stored_removed test rows all.1) ]

stored_filter : (test : Row → Bool) (rows : Rows) → AreStored rows → AreStored (filter test rows)
stored_filter test [] all = tt
stored_filter test (row ∷ rows) all = elim (test row) as
    (λ b. AreStored (cond b (row ∷ filter test rows) (filter test rows)))
    [ true ↦ (all.0, stored_filter test rows all.1) | false ↦ stored_filter test rows all.1 ]

stored_chosen : (all : Bool) (rows : Rows) → AreStored rows → AreStored (chosen all rows)
stored_chosen true rows s = s
stored_chosen false [] s = tt
stored_chosen false (row ∷ rows) s = (s.0, tt)

stored_matching : (collection : List ℕ) (selector : Query) (rows : Rows) → AreStored rows → AreStored (matching collection selector rows)
stored_matching collection selector rows s = stored_filter (λ row. holds selector row.0.id row.1) (rows_of collection rows)
    (stored_filter (λ row. is_name row.0.collection collection) rows s)

-- ---- changes

abbrev AreKept : List Change → Type 0
AreKept [] = Unit {0}
AreKept (c ∷ cs) = IfSome c.after (IsStored c.key) × AreKept cs

stored_set : (rows : Rows) (key : Key) (w : Option Entries) → AreStored rows → IfSome w (IsStored key) → AreStored (set key_cmp rows key w)
stored_set rows key None all one = stored_removed (is_at (key_cmp key)) rows all
stored_set rows key (Some doc) all one = stored_put rows key doc all one

stored_after : (rows : Rows) (cs : List Change) → AreStored rows → AreKept cs → AreStored (after rows cs)
stored_after rows [] all kept = all
stored_after rows (c ∷ cs) all kept = stored_after (set key_cmp rows c.key c.after) cs (stored_set rows c.key c.after all kept.0) kept.1

if_differs : (row : Row) (doc : Entries) (b : Bool) (cs : List Change) → is_id row.0.id ≡ true → is_too_large doc ≡ false → AreKept cs →
    AreKept (with_change (if b then None else Some (change_to row doc)) cs)
if_differs row doc true cs id small kept = kept
if_differs row doc false cs id small kept = (record { id = id; small = small }, kept)

not_large : (doc : Entries) (b : Bool) (p o : Option Change) → is_too_large doc ≡ b →
    (let r : Outcome (Option Change) = (if b then Err fault.TooLarge else Ok p) in r) ≡ Ok o → (is_too_large doc ≡ false) × (p ≡ o)
not_large doc true p o e is = absurd (cc is)
not_large doc false p o e is = (e, cc is)

both_made : {A B C : Type 0} (f : A → B → C) (a : Outcome A) (b : Outcome B) (w : C) → with_both f a b ≡ Ok w →
    (x : A) × (y : B) × (a ≡ Ok x) × (b ≡ Ok y) × (f x y ≡ w)
both_made f (Err e) b w is = absurd (cc is)
both_made f (Ok x) (Err e) w is = absurd (cc is)
both_made f (Ok x) (Ok y) w is = (x, y, refl, refl, cc is)

kept_updates : (m : Modification) (rows : Rows) (cs : List Change) → AreStored rows → all_updated m rows ≡ Ok cs → AreKept cs
kept_updates m [] cs s is = let none : cs ≡ [] = cc is in subst AreKept (sym none) tt
kept_updates m (row ∷ rows) cs s is =
    let parts = both_made with_change (updated m row) (all_updated m rows) cs is in
    let changed = and_then-ok (or_refused (modified m row.0.id row.1))
    (λ doc. if is_too_large doc then Err fault.TooLarge else Ok (change_if_differs row doc)) parts.0 parts.2 in
    let small = not_large changed.0 (is_too_large changed.0) (change_if_differs row changed.0) parts.0 refl changed.2 in
    subst AreKept parts.4
    (subst (λ (o : Option Change). AreKept (with_change o parts.1)) small.1
    (if_differs row changed.0 (same (document row.1) (document changed.0)) parts.1 s.0.id small.0 (kept_updates m rows parts.1 s.1 parts.3)))

kept_removals : (rows : Rows) → AreKept (map removal rows)
kept_removals [] = tt
kept_removals (row ∷ rows) = (tt, kept_removals rows)

-- ---- operations: an insert has an id of 1 to 256 bytes

abbrev HasId : Op → Type 0
HasId (operation.Insert collection id doc) = is_id id ≡ true
HasId op = Unit {0}

listed : {X : Type 0} (b : Bool) (o : Outcome X) (x : X) → (if b then o else Err fault.NoCollection) ≡ Ok x → o ≡ Ok x
listed true o x is = is
listed false o x is = absurd (cc is)

roomy : (b : Bool) (a x : Applied) → (if b then Err fault.Full else Ok a) ≡ Ok x → a ≡ x
roomy true a x is = absurd (cc is)
roomy false a x is = cc is

planned : (rows : Rows) (room : ℕ) (plan : Plan) (a : Applied) → if_room rows room plan ≡ Ok a → AreStored rows → AreKept plan.changes → AreStored a.rows
planned rows room plan a is all kept =
    subst (λ (x : Applied). AreStored x.rows) (roomy (is_full (after rows plan.changes) plan.changes room) (done rows plan) a is)
    (stored_after rows plan.changes all kept)

fresh : (o : Option Entries) (b : Bool) (p plan : Plan) →
    (if is_some o then Err fault.Duplicate else (if b then Err fault.TooLarge else Ok p)) ≡ Ok plan → (b ≡ false) × (p ≡ plan)
fresh (Some d) b p plan is = absurd (cc is)
fresh None true p plan is = absurd (cc is)
fresh None false p plan is = (refl, cc is)

pub stored_applied : (names : List (List ℕ)) (rows : Rows) (op : Op) (room : ℕ) (a : Applied) → HasId op → AreStored rows →
    applied names rows op room ≡ Ok a → AreStored a.rows
stored_applied names rows (operation.Insert collection id doc) room a good all is =
    let key = key_of collection id in
    let plan = and_then-ok (insert_plan rows key doc) (λ plan. if_room rows room plan) a (listed (is_listed names collection) _ a is) in
    let new = fresh (at key_cmp rows key) (is_too_large doc) (insertion key doc) plan.0 plan.1 in
    planned rows room plan.0 a plan.2 all (subst (λ (p : Plan). AreKept p.changes) new.1 (record { id = good; small = new.0 }, tt))
stored_applied names rows (operation.Update collection selector m every) room a good all is =
    let found = chosen every (matching collection selector rows) in
    let plan = and_then-ok (update_plan m found) (λ plan. if_room rows room plan) a (listed (is_listed names collection) _ a is) in
    let changes = made-ok (λ changes. plan_for found changes) (all_updated m found) plan.0 plan.1 in
    planned rows room plan.0 a plan.2 all
    (subst (λ (p : Plan). AreKept p.changes) changes.2 (kept_updates m found changes.0
    (stored_chosen every (matching collection selector rows) (stored_matching collection selector rows all)) changes.1))
stored_applied names rows (operation.Remove collection selector) room a good all is =
    let found = matching collection selector rows in
    let e : Ok (done rows (remove_plan found)) ≡ Ok a = listed (is_listed names collection) _ a is in
    let same : done rows (remove_plan found) ≡ a = cc e in
    subst (λ (x : Applied). AreStored x.rows) same (stored_after rows (map removal found) all (kept_removals found))

-- ---- new documents

drawn_is : (seed collection : List ℕ) (n : ℕ) → is_id (drawn_id seed collection n) ≡ true
drawn_is seed collection n = by (length (drawn_id seed collection n)) (length-map (range_with_len 0 17) (letter_at seed collection n))
  where
    by : (l : ℕ) → l ≡ 17 → (nat_lt 0 l && nat_le l 256) ≡ true
    by l e = subst (λ m. (nat_lt 0 m && nat_le m 256) ≡ true) (sym e) refl

abbrev IsNew : Option New → Type 0
IsNew None = Unit {0}
IsNew (Some new) = is_id new.id ≡ true

if_id : (b : Bool) (id : List ℕ) (doc : Entries) → is_id id ≡ b → IsNew (if b then Some (record { id = id; is_drawn = false; doc = doc }) else None)
if_id true id doc e = e
if_id false id doc e = tt

new_by_is : (next : List ℕ) (fields : Entries) (o : Option Val) → is_id next ≡ true → IsNew (new_by next fields o)
new_by_is next fields None good = good
new_by_is next fields (Some (text id)) good = if_id (is_id id) id (remove fields (codes "_id")) refl
new_by_is next fields (Some v) good = tt

new_is : (next : List ℕ) (v : Val) → is_id next ≡ true → IsNew (new_of next v)
new_is next (object fs) good = new_by_is next (entries_of fs) (get (entries_of fs) (codes "_id")) good
new_is next v good = tt

next_is : (run : Run) (collection : List ℕ) → is_id (next_id run collection) ≡ true
next_is run collection = drawn_is run.seed collection (drawn_for collection run)

filled_is : (run : Run) (collection : List ℕ) (o : Option Val) → IsNew (option_and_then (new_of (next_id run collection)) o)
filled_is run collection None = tt
filled_is run collection (Some v) = new_is (next_id run collection) v (next_is run collection)

-- ---- steps

answer_stored : (collections : List (List ℕ)) (room : ℕ) (rows : Rows) (run : Run) (op : Op) (next : Applied → Run) → HasId op → AreStored rows →
    (o : Outcome Applied) → applied collections rows op room ≡ o → AreStored (by_answer rows run o next).rows
answer_stored collections room rows run op next good all (Ok a) is = stored_applied collections rows op room a good all is
answer_stored collections room rows run op next good all (Err e) is = all

made_stored : {A : Type 0} (rows : Rows) (run : Run) (o : Option A) (act : A → Stepped) → AreStored rows → ((a : A) → AreStored (act a).rows) →
    AreStored (if_made rows run o act).rows
made_stored rows run None act all f = all
made_stored rows run (Some a) act all f = f a

found_stored : (rows : Rows) (run : Run) (e : Fault) (found : Rows) → AreStored rows → AreStored (if_found rows run e found).rows
found_stored rows run e [] all = all
found_stored rows run e (row ∷ found) all = all

insert_stored : (s : Setting) (rows : Rows) (run : Run) (collection : List ℕ) (o : Option New) → IsNew o → AreStored rows →
    AreStored (if_made rows run o (λ new. by_answer rows run (applied s.collections rows (operation.Insert collection new.id new.doc) s.room)
    (λ a. gone_on (inserted collection new run)))).rows
insert_stored s rows run collection None good all = all
insert_stored s rows run collection (Some new) good all =
    answer_stored s.collections s.room rows run (operation.Insert collection new.id new.doc) (λ a. gone_on (inserted collection new run)) good all
    (applied s.collections rows (operation.Insert collection new.id new.doc) s.room) refl

-- a write that inserts has such an id
abbrev IsWriting : List ℕ → Option Writing → Type 0
IsWriting collection None = Unit {0}
IsWriting collection (Some w) = HasId (operation_of collection w.0)

writes_new : (collection : List ℕ) (run : Run) (o : Option New) → IsNew o → IsWriting collection (insert_writing collection run o)
writes_new collection run None good = tt
writes_new collection run (Some new) good = good

writes_update : (collection : List ℕ) (run : Run) (b : Bool) (id : List ℕ) (r : modifier.Reading Modification) →
    IsWriting collection (writing run (if b then update_of id r else None))
writes_update collection run false id r = tt
writes_update collection run true id (Ok (changed_by cs)) = tt
writes_update collection run true id (Ok (replaced_by fields)) = tt
writes_update collection run true id (Err e) = tt

writes_removal : (collection : List ℕ) (run : Run) (b : Bool) (id : List ℕ) → IsWriting collection (writing run (if b then Some (removes id) else None))
writes_removal collection run true id = tt
writes_removal collection run false id = tt

writes : (collection : List ℕ) (run : Run) (a : Action) (params : List Val) → IsWriting collection (writing_in collection run a params)
writes collection run action.Insert (doc ∷ []) =
    writes_new collection run (new_of (next_id run collection) doc) (new_is (next_id run collection) doc (next_is run collection))
writes collection run action.Update (text id ∷ v ∷ []) = writes_update collection run (is_id id) id (modifier.reading v)
writes collection run action.Remove (text id ∷ []) = writes_removal collection run (is_id id) id
writes collection run a params = tt

verdict_stored : (s : Setting) (rows : Rows) (run : Run) (collection : List ℕ) (w : Writing) (v : Verdict) → HasId (operation_of collection w.0) →
    AreStored rows → AreStored (by_verdict s rows run collection w v).rows
verdict_stored s rows run collection w verdict.Allowed good all =
    answer_stored s.collections s.room rows run (operation_of collection w.0) (λ a. ended (ended_with (Some a.answer)) w.1) good all
    (applied s.collections rows (operation_of collection w.0) s.room) refl
verdict_stored s rows run collection w verdict.Absent good all = all
verdict_stored s rows run collection w (verdict.Denied place) good all = all
verdict_stored s rows run collection w verdict.NotAllowed good all = all
verdict_stored s rows run collection w verdict.BadRule good all = all

guarded_stored : (s : Setting) (rows : Rows) (run : Run) (collection : List ℕ) (rules : Option Rules) (o : Option Writing) → IsWriting collection o →
    AreStored rows →
    AreStored (if_made rows run o (λ w. by_rules s rows run collection rules w)).rows
guarded_stored s rows run collection rules None good all = all
guarded_stored s rows run collection rules (Some w) good all =
    verdict_stored s rows run collection w (judged (or_none rules) w.0 (at key_cmp rows (key_of collection (id_of w.0)))) good all

step_stored : (s : Setting) (rows : Rows) (run : Run) (step : ProgramStep) → AreStored rows → AreStored (done_step s rows run step).rows
step_stored s rows run (step.Insert collection doc) all =
    insert_stored s rows run collection (new_in run collection doc) (filled_is run collection (filled_in run doc)) all
step_stored s rows run (step.Update collection selector m every) all =
    made_stored rows run (selector_in run selector) _ all
    (λ q. made_stored rows run (modifier_in run m) _ all (λ m. answer_stored s.collections s.room rows run (operation.Update collection q m every)
    (λ a. gone_on run) tt all (applied s.collections rows (operation.Update collection q m every) s.room) refl))
step_stored s rows run (step.Remove collection selector) all =
    made_stored rows run (selector_in run selector) _ all
    (λ q. answer_stored s.collections s.room rows run (operation.Remove collection q)
    (λ a. gone_on run) tt all (applied s.collections rows (operation.Remove collection q) s.room) refl)
step_stored s rows run (step.Require collection selector e) all =
    made_stored rows run (selector_in run selector) _ all (λ q. found_stored rows run e (matching collection q rows) all)
step_stored s rows run step.Unblock all = all
step_stored s rows run (step.Throw e) all = all
step_stored s rows run (step.Return template) all = made_stored rows run (filled_in run template) _ all (λ v. all)
step_stored s rows run (step.Guarded collection a) all =
    guarded_stored s rows run collection (s.rules collection) (writing_in collection run a run.params) (writes collection run a run.params) all

stepped_stored : (s : Setting) (rows : Rows) (run : Run) (left : List ProgramStep) → AreStored rows → AreStored (stepped_by s rows run left).rows
stepped_stored s rows run [] all = all
stepped_stored s rows run (step ∷ steps) all = step_stored s rows (record run { left = steps }) step all

-- ---- entries

abbrev IsOperation : Option Op → Type 0
IsOperation None = Unit {0}
IsOperation (Some op) = HasId op

if_given : (collection : List ℕ) (b : Bool) (id : List ℕ) (doc : Entries) → is_id id ≡ b →
    IsOperation (insert_of collection (if b then Some (record { id = id; is_drawn = false; doc = doc }) else None))
if_given collection true id doc e = e
if_given collection false id doc e = tt

given_by : (collection : List ℕ) (fields : Entries) (o : Option Val) → IsOperation (insert_of collection (new_by [] fields o))
given_by collection fields None = tt
given_by collection fields (Some (text id)) = if_given collection (is_id id) id (remove fields (codes "_id")) refl
given_by collection fields (Some v) = tt

given : (collection : List ℕ) (v : Val) → IsOperation (insert_of collection (new_of [] v))
given collection (object fs) = given_by collection (entries_of fs) (get (entries_of fs) (codes "_id"))
given collection v = tt

removal_is : (collection : List ℕ) (o : Option Query) → IsOperation (option_map (λ query. operation.Remove collection query) o)
removal_is collection None = tt
removal_is collection (Some query) = tt

update_is : (collection : List ℕ) (every : Bool) (q : Option Query) (m : Option Modification) → IsOperation (update_by collection every q m)
update_is collection every None m = tt
update_is collection every (Some q) None = tt
update_is collection every (Some q) (Some m) = tt

either_is : (b c : Bool) (x y : Option Op) → IsOperation x → IsOperation y → IsOperation (if b then x else (if c then y else None))
either_is true c x y f g = f
either_is false true x y f g = g
either_is false false x y f g = tt

named_is : (name collection : List ℕ) (rest : List Val) → IsOperation (operation_named name collection rest)
named_is name collection [] = tt
named_is name collection (v ∷ []) =
    either_is (is_name name (codes "insert")) (is_name name (codes "remove")) (insert_of collection (new_of [] v)) (remove_of collection v)
    (given collection v) (removal_is collection (if_ok (selector.reading v)))
named_is name collection (s ∷ m ∷ []) =
    either_is (is_name name (codes "update")) (is_name name (codes "updateAll")) (update_in collection false s m) (update_in collection true s m)
    (update_is collection false (if_ok (selector.reading s)) (if_ok (modifier.reading m)))
    (update_is collection true (if_ok (selector.reading s)) (if_ok (modifier.reading m)))
named_is name collection (s ∷ m ∷ v ∷ rest) = tt

operation_is : (op : List Val) → IsOperation (operation_in op)
operation_is (text name ∷ text collection ∷ rest) = named_is name collection rest
operation_is op = tt

begin_stored : (app : Programs) (h : Held) (key : RunKey) (method : List ℕ) (params : List Val) (seed : Val) (o : Option Begun) → AreStored h.rows →
    AreStored (with_begin app h key method params seed o).rows
begin_stored app h key method params seed None all = all
begin_stored app h key method params seed (Some b) all = all

run_stored : (app : Programs) (h : Held) (key : RunKey) (o : Option Begun) → AreStored h.rows → AreStored (with_step app h key o).rows
run_stored app h key None all = all
run_stored app h key (Some b) all =
    let made = stepped_stored (setting_in app h) h.rows b.run b.run.left all in
    elim (no_steps b.run.left) as
    (λ (c : Bool). AreStored (cond c (later h) (with_stepped h key (stepped (setting_in app h) h.rows b.run))).rows) [ true ↦ all | false ↦ made ]

answered_stored : (app : Programs) (h : Held) (op : Op) (o : Outcome Applied) → HasId op → applied app.collections h.rows op (room_in h) ≡ o →
    AreStored h.rows → AreStored (with_answer h o).rows
answered_stored app h op (Ok a) good is all = stored_applied app.collections h.rows op (room_in h) a good all is
answered_stored app h op (Err e) good is all = all

operation_stored : (app : Programs) (h : Held) (o : Option Op) → IsOperation o → AreStored h.rows → AreStored (with_operation app h o).rows
operation_stored app h None good all = all
operation_stored app h (Some op) good all = answered_stored app h op (applied app.collections h.rows op (room_in h)) good refl all

pub carried_stored : (app : Programs) (h : Held) (e : Entry) → AreStored h.rows → AreStored (carried app h e).rows
carried_stored app h (entry.Begin session k method params seed) all =
    begin_stored app h (session, k) method params (view seed) (at run_cmp h.runs (session, k)) all
carried_stored app h (entry.Step session k) all = run_stored app h (session, k) (at run_cmp h.runs (session, k)) all
carried_stored app h (entry.Admin op) all = operation_stored app h (operation_in op) (operation_is op) all

from_stored : (app : Programs) (h : Held) (es : List Entry) → AreStored h.rows → AreStored (held_from app h es).rows
from_stored app h [] all = all
from_stored app h (e ∷ es) all = from_stored app (carried app h e) es (carried_stored app h e all)

-- each document of a history has an id of 1 to 256 bytes, and is within the limits of a document
pub stored_held : (app : Programs) (history : List Entry) → AreStored (held app history).rows
stored_held app history = from_stored app nothing history tt
