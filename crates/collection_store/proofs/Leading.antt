-- What an operation that isn't refused does: its changes are of different documents, each of what stood at its key, and lead to the rows that it leaves; their keys are among those that it touches; its new documents have room.
use Rattle.std.specs.Prelude.{is_some, if◌then◌else◌, nat_lt, ◌||◌}
use Rattle.std.specs.List.{list_any}
use Rattle.std.specs.Map.{keys_of}
use Rattle.std.specs.Ordering.{eq_by_cmp}
use Rattle.std.proofs.Common.{◌≡◌, ℕ, ◌≤◌, Bool, true, false, List, [], ◌∷◌, map, length, Option, Some, None, Ok, Err, refl, ap, sym, subst, ◌∙◌, arith}
use Rattle.std.proofs.lemmas.Bool.{ltb-false, or_parts}
use Rattle.map_model.specs.Maps.{at, IsSorted}
use Rattle.map_model.specs.MapLaws.{eq_by_cmp-self}
use Rattle.map_model.specs.ChangeLaws.{sorted-changed}
use Rattle.value_model.specs.Val.{Entries}
use Rattle.ejson_value.specs.declared.key.Key.{Key}
use Rattle.ejson_value.specs.declared.change.Change.{Change}
use Rattle.ejson_value.specs.Key.{key_cmp, key_order, key_of}
use Rattle.ejson_value.specs.Rows.{Rows}
use Rattle.ejson_value.specs.Changes.{changes_of}
use Rattle.ejson_value.specs.ChangeLaws.{Fit-from_all}
use Rattle.ejson_value.specs.ResultLaws.{made-ok, and_then-ok}
use Rattle.collection_store.specs.declared.fault.OpFault.TheVariants as fault
use Rattle.collection_store.specs.declared.operation.Op.{Op}
use Rattle.collection_store.specs.declared.operation.Op.TheVariants as operation
use Rattle.collection_store.specs.Outcome.{Outcome}
use Rattle.collection_store.specs.Limits.{is_too_large, is_full, max_documents, max_bytes, bytes_of, new_bytes}
use Rattle.collection_store.specs.Applied.{Row, Plan, Applied, is_listed, after, done, matching, chosen, insertion, insert_plan, update_plan, all_updated, remove_plan, removal, plan_for, if_room, applied}
use Rattle.collection_store.specs.Answered.{AreFor, AreTouched, is_touched, Does}
use Rattle.collection_store.proofs.Picked.{Picked, none, skip, pick, AreFor-from_picked, AreFor-insertion, of_matching, of_chosen_matching, picked_removals, picked_updates, no_new_bytes}

record Led (rows : Rows) (room : ℕ) (a : Applied) : Type 0 where
  pub are_for : AreFor rows a.changes
  pub to : after rows a.changes ≡ a.rows
  pub touched : AreTouched a.touched a.changes
  pub fits : new_bytes a.changes ≤ room

listed : {X : Type 0} (b : Bool) (o : Outcome X) (x : X) → (if b then o else Err fault.NoCollection) ≡ Ok x → o ≡ Ok x
listed true o x is = is
listed false o x is = absurd (cc is)

roomy : (b : Bool) (a x : Applied) → (if b then Err fault.Full else Ok a) ≡ Ok x → (b ≡ false) × (a ≡ x)
roomy true a x is = absurd (cc is)
roomy false a x is = (refl, cc is)

has_room : (rows : Rows) (cs : List Change) (room : ℕ) → is_full rows cs room ≡ false → new_bytes cs ≤ room
has_room rows cs room is =
    let last = or_parts (nat_lt max_documents (length rows) || nat_lt max_bytes (bytes_of rows)) (nat_lt room (new_bytes cs)) is in
    let not_more = ltb-false room (new_bytes cs) last.1 in
    omega (arith, not_more)

planned : (rows : Rows) (room : ℕ) (plan : Plan) (a : Applied) → if_room rows room plan ≡ Ok a → AreFor rows plan.changes → AreTouched plan.touched plan.changes → Led rows room a
planned rows room plan a is f t =
    let parts = roomy (is_full (after rows plan.changes) plan.changes room) (done rows plan) a is in
    subst (λ (x : Applied). Led rows room x) parts.1 (record { are_for = f; to = refl; touched = t; fits = has_room (after rows plan.changes) plan.changes room parts.0 })

inserted : (o : Option Entries) (b : Bool) (p plan : Plan) → (if is_some o then Err fault.Duplicate else (if b then Err fault.TooLarge else Ok p)) ≡ Ok plan → (o ≡ None) × (p ≡ plan)
inserted (Some d) b p plan is = absurd (cc is)
inserted None true p plan is = absurd (cc is)
inserted None false p plan is = (refl, cc is)

-- ---- the keys of changes of rows are keys of the rows

either : (a b : Bool) → b ≡ true → (a || b) ≡ true
either true b e = refl
either false b e = e

more_touched : (k : Key) (ks : List Key) (cs : List Change) → AreTouched ks cs → AreTouched (k ∷ ks) cs
more_touched k ks [] t = tt
more_touched k ks (c ∷ cs) t = (either (eq_by_cmp key_cmp c.key k) (is_touched ks c) t.0, more_touched k ks cs t.1)

touched_picked : (rows : Rows) (cs : List Change) → Picked rows cs → AreTouched (keys_of rows) cs
touched_picked [] [] none = tt
touched_picked [] (c ∷ cs) p = elim p [ ]
touched_picked (row ∷ rows) cs (skip p) = more_touched row.0 (keys_of rows) cs (touched_picked rows cs p)
touched_picked (row ∷ rows) (c ∷ cs) (pick k b p) = (
  ap (λ q. eq_by_cmp key_cmp q row.0 || list_any (λ other. eq_by_cmp key_cmp q other) (keys_of rows)) k ∙ ap (λ b. b || list_any (λ other. eq_by_cmp key_cmp row.0 other) (keys_of rows)) (eq_by_cmp-self key_order row.0),
  more_touched row.0 (keys_of rows) cs (touched_picked rows cs p),
)

-- ---- the three operations

applied_led : (names : List (List ℕ)) (rows : Rows) (op : Op) (room : ℕ) (a : Applied) → IsSorted key_cmp rows → applied names rows op room ≡ Ok a → Led rows room a
applied_led names rows (operation.Insert collection id doc) room a s is =
    let key = key_of collection id in
    let plan = and_then-ok (insert_plan rows key doc) (λ plan. if_room rows room plan) a (listed (is_listed names collection) _ a is) in
    let new = inserted (at key_cmp rows key) (is_too_large doc) (insertion key doc) plan.0 plan.1 in
    let own : (eq_by_cmp key_cmp key key || false) ≡ true = ap (λ b. b || false) (eq_by_cmp-self key_order key) in
    planned rows room plan.0 a plan.2 (subst (λ (p : Plan). AreFor rows p.changes) new.1 (AreFor-insertion rows key doc new.0)) (subst (λ (p : Plan). AreTouched p.touched p.changes) new.1 (own, tt))
applied_led names rows (operation.Update collection selector modifier all) room a s is =
    let found = chosen all (matching collection selector rows) in
    let plan = and_then-ok (update_plan modifier found) (λ plan. if_room rows room plan) a (listed (is_listed names collection) _ a is) in
    let changes = made-ok (λ changes. plan_for found changes) (all_updated modifier found) plan.0 plan.1 in
    let picked = picked_updates modifier found changes.0 changes.1 in
    planned rows room plan.0 a plan.2
    (subst (λ (p : Plan). AreFor rows p.changes) changes.2 (AreFor-from_picked rows changes.0 s (of_chosen_matching all collection selector rows changes.0 picked)))
    (subst (λ (p : Plan). AreTouched p.touched p.changes) changes.2 (touched_picked found changes.0 picked))
applied_led names rows (operation.Remove collection selector) room a s is =
    let found = matching collection selector rows in
    let e : Ok (done rows (remove_plan found)) ≡ Ok a = listed (is_listed names collection) _ a is in
    let same : done rows (remove_plan found) ≡ a = cc e in
    let none_new : new_bytes (map removal found) ≤ room = omega (arith, no_new_bytes found) in
    subst (λ (x : Applied). Led rows room x) same (record {
      are_for = AreFor-from_picked rows (map removal found) s (of_matching collection selector rows (map removal found) (picked_removals found));
      to = refl;
      touched = touched_picked found (map removal found) (picked_removals found);
      fits = none_new;
    })

pub applied_does : (names : List (List ℕ)) (rows : Rows) (op : Op) (room : ℕ) (a : Applied) → IsSorted key_cmp rows → applied names rows op room ≡ Ok a → Does rows room a
applied_does names rows op room a s is =
    let led = applied_led names rows op room a s is in
    record { are_for = led.are_for; leads = record { fit = Fit-from_all rows a.changes s led.are_for.apart led.are_for.fit; ends = led.to }; touched = led.touched; fits = led.fits }

-- the rows that are left stand by rising key too
pub sorted_done : (rows : Rows) (room : ℕ) (a : Applied) → IsSorted key_cmp rows → Does rows room a → IsSorted key_cmp a.rows
sorted_done rows room a s does = subst (IsSorted key_cmp) does.leads.ends (sorted-changed key_order rows (changes_of a.changes) s)
