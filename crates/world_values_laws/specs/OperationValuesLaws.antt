-- Laws: What an operation of values leaves of documents are documents.
use Rattle.std.specs.Prelude.{◌≡◌, ℕ, ◌≤◌, List, [], ◌∷◌, map, filter, length, Bool, true, false, cond, ◌||◌, nat_lt, Option, None, Some, IfSome}
use Rattle.std.specs.Prelude.{is_some, Ok, Err, IfOk, refl, if◌then◌else◌}
use Rattle.std.specs.Map.{remove_entry}
use Rattle.std.specs.BTreeMap.{is_at, insert_entry}
use Rattle.std.specs.declared.cmp.Ordering.TheVariants.{Less, Equal, Greater}
use Rattle.std.specs.Ordering.{match_ordering}
use Rattle.std.proofs.Common.{sym, subst, arith}
use Rattle.std.proofs.lemmas.Int.{ints}
use Rattle.std.proofs.lemmas.Bool.{ltb-false, or_parts}
use Rattle.map_model.specs.Maps.{at, set}
use Rattle.value_model.specs.Val.{Entries}
use Rattle.value_model.specs.Size.{is_name}
use Rattle.value_model.specs.Valid.{IsDocument}
use Rattle.ejson_value.specs.declared.key.Key.{Key}
use Rattle.ejson_value.specs.declared.change.Change.{Change}
use Rattle.ejson_value.specs.Key.{key_cmp, key_of}
use Rattle.ejson_value.specs.Rows.{Rows, rows_of}
use Rattle.ejson_value.specs.ResultLaws.{made-ok, and_then-ok}
use Rattle.ejson_value.specs.Results.{with_both}
use Rattle.selector_match.specs.Query.{Query}
use Rattle.selector_match.specs.Holds.{holds}
use Rattle.modifier_apply.specs.Change.{Modification}
use Rattle.modifier_apply.specs.Modified.{Outcome as Modifying, modified, same}
use Rattle.collection_store.specs.declared.fault.OpFault.TheVariants as fault
use Rattle.collection_store.specs.declared.operation.Op.{Op}
use Rattle.collection_store.specs.declared.operation.Op.TheVariants as operation
use Rattle.collection_store.specs.Outcome.{Outcome}
use Rattle.collection_store.specs.Limits.{document, is_too_large, is_full, max_documents, max_bytes, bytes_of, new_bytes}
use Rattle.collection_store.specs.Applied.{Row, Plan, Applied, is_listed, after, done, matching, chosen, insertion, insert_plan, update_plan}
use Rattle.collection_store.specs.Applied.{or_refused, change_if_differs, change_to, updated, with_change, all_updated, remove_plan, removal}
use Rattle.collection_store.specs.Applied.{plan_for, if_room, applied, number_of}
use Rattle.world_model.specs.session_model.Kept.{IsResult}
use Rattle.world_values_laws.specs.ModifierValues.{IsModification}
use Rattle.world_values_laws.specs.ModifierValuesLaws.{modified_document}
use Rattle.world_values_laws.specs.Values.{AreDocuments, AreSound}
use Rattle.world_values_laws.specs.OperationValues.{AreLeft, IsApplied, IsOperation}

-- ---- rows

documents_put : (rows : Rows) (key : Key) (doc : Entries) → AreDocuments rows → IsDocument doc → AreDocuments (insert_entry key_cmp rows key doc)
documents_put [] key doc all one = (one, tt)
documents_put (row ∷ rows) key doc all one =
    elim (key_cmp key row.0)
    as (λ o. AreDocuments (match_ordering o ((key, doc) ∷ row ∷ rows) ((row.0, doc) ∷ rows) (row ∷ insert_entry key_cmp rows key doc))) [
      | Less ↦ (one, all)
      | Equal ↦ (one, all.1)
      | Greater ↦ (all.0, documents_put rows key doc all.1 one)
    ]

documents_removed : (test : Key → Bool) (rows : Rows) → AreDocuments rows → AreDocuments (remove_entry test rows)
documents_removed test [] all = tt
documents_removed test (row ∷ rows) all = elim (test row.0) as
    (λ b. AreDocuments (cond b rows (row ∷ remove_entry test rows))) [ true ↦ all.1 | false ↦ (all.0, documents_removed test rows all.1) ]

documents_filter : (test : Row → Bool) (rows : Rows) → AreDocuments rows → AreDocuments (filter test rows)
documents_filter test [] all = tt
documents_filter test (row ∷ rows) all =
    elim (test row) as
    (λ b. AreDocuments (cond b (row ∷ filter test rows) (filter test rows)))
    [ true ↦ (all.0, documents_filter test rows all.1) | false ↦ documents_filter test rows all.1 ]

documents_chosen : (all : Bool) (rows : Rows) → AreDocuments rows → AreDocuments (chosen all rows)
documents_chosen true rows s = s
documents_chosen false [] s = tt
documents_chosen false (row ∷ rows) s = (s.0, tt)

documents_matching : (collection : List ℕ) (selector : Query) (rows : Rows) → AreDocuments rows → AreDocuments (matching collection selector rows)
documents_matching collection selector rows s =
    documents_filter (λ row. holds selector row.0.id row.1) (rows_of collection rows) (documents_filter (λ row. is_name row.0.collection collection) rows s)

-- ---- how many

fewer_removed : (test : Key → Bool) (rows : Rows) → length (remove_entry test rows) ≤ length rows
fewer_removed test [] = omega arith
fewer_removed test (row ∷ rows) =
    let rest = fewer_removed test rows in
    elim (test row.0) as (λ b. length (cond b rows (row ∷ remove_entry test rows)) ≤ length (row ∷ rows)) [ true ↦ omega arith | false ↦ omega (arith, rest) ]

fewer_filtered : (test : Row → Bool) (rows : Rows) → length (filter test rows) ≤ length rows
fewer_filtered test [] = omega arith
fewer_filtered test (row ∷ rows) =
    let rest = fewer_filtered test rows in
    elim (test row) as
    (λ b. length (cond b (row ∷ filter test rows) (filter test rows)) ≤ length (row ∷ rows)) [ true ↦ omega (arith, rest) | false ↦ omega (arith, rest) ]

fewer_chosen : (all : Bool) (rows : Rows) → length (chosen all rows) ≤ length rows
fewer_chosen true rows = omega arith
fewer_chosen false [] = omega arith
fewer_chosen false (row ∷ rows) = omega arith

fewer_matching : (collection : List ℕ) (selector : Query) (rows : Rows) → length (matching collection selector rows) ≤ length rows
fewer_matching collection selector rows =
    omega (
      arith,
      fewer_filtered (λ row. holds selector row.0.id row.1) (rows_of collection rows),
      fewer_filtered (λ row. is_name row.0.collection collection) rows,
    )

fewer_after : (rows found : Rows) → length (after rows (map removal found)) ≤ length rows
fewer_after rows [] = omega arith
fewer_after rows (row ∷ found) = omega (arith, fewer_after (remove_entry (is_at (key_cmp row.0)) rows) found, fewer_removed (is_at (key_cmp row.0)) rows)

few_left : (rows : Rows) (cs : List Change) (room : ℕ) → is_full rows cs room ≡ false → length rows ≤ max_documents
few_left rows cs room is =
    let first = or_parts (nat_lt max_documents (length rows) || nat_lt max_bytes (bytes_of rows)) (nat_lt room (new_bytes cs)) is in
    let number = or_parts (nat_lt max_documents (length rows)) (nat_lt max_bytes (bytes_of rows)) first.0 in
    let not_more = ltb-false max_documents (length rows) number.0 in
    omega (arith, not_more)

-- a number of documents is a value
pub number_is : (n : ℕ) → n ≤ max_documents → IsResult (number_of n)
number_is n le = (record { low = omega (arith, ints); high = omega (arith, ints, le) }, omega arith)

-- ---- changes

documents_set : (rows : Rows) (key : Key) (w : Option Entries) → AreDocuments rows → IfSome w IsDocument → AreDocuments (set key_cmp rows key w)
documents_set rows key None all one = documents_removed (is_at (key_cmp key)) rows all
documents_set rows key (Some doc) all one = documents_put rows key doc all one

documents_after : (rows : Rows) (cs : List Change) → AreDocuments rows → AreLeft cs → AreDocuments (after rows cs)
documents_after rows [] all left = all
documents_after rows (c ∷ cs) all left = documents_after (set key_cmp rows c.key c.after) cs (documents_set rows c.key c.after all left.0) left.1

if_differs : (row : Row) (doc : Entries) (b : Bool) (cs : List Change) → IsDocument doc → AreLeft cs →
    AreLeft (with_change (if b then None else Some (change_to row doc)) cs)
if_differs row doc true cs d left = left
if_differs row doc false cs d left = (d, left)

small_one : (b : Bool) (p o : Option Change) → (let r : Outcome (Option Change) = (if b then Err fault.TooLarge else Ok p) in r) ≡ Ok o → p ≡ o
small_one true p o is = absurd (cc is)
small_one false p o is = cc is

both_made : {A B C : Type 0} (f : A → B → C) (a : Outcome A) (b : Outcome B) (w : C) → with_both f a b ≡ Ok w →
    (x : A) × (y : B) × (a ≡ Ok x) × (b ≡ Ok y) × (f x y ≡ w)
both_made f (Err e) b w is = absurd (cc is)
both_made f (Ok x) (Err e) w is = absurd (cc is)
both_made f (Ok x) (Ok y) w is = (x, y, refl, refl, cc is)

not_refused : (r : Modifying Entries) (doc : Entries) → IfOk r IsDocument → or_refused r ≡ Ok doc → IsDocument doc
not_refused (Ok d) doc one is = let e : d ≡ doc = cc is in subst IsDocument e one
not_refused (Err e) doc one is = absurd (cc is)

left_updates : (m : Modification) (rows : Rows) (cs : List Change) → IsModification m → AreDocuments rows → all_updated m rows ≡ Ok cs → AreLeft cs
left_updates m [] cs good s is = let none : cs ≡ [] = cc is in subst AreLeft (sym none) tt
left_updates m (row ∷ rows) cs good s is =
    let parts = both_made with_change (updated m row) (all_updated m rows) cs is in
    let changed = and_then-ok (or_refused (modified m row.0.id row.1))
    (λ doc. if is_too_large doc then Err fault.TooLarge else Ok (change_if_differs row doc)) parts.0 parts.2 in
    let d = not_refused (modified m row.0.id row.1) changed.0 (modified_document m row.0.id row.1 good s.0) changed.1 in
    let small = small_one (is_too_large changed.0) (change_if_differs row changed.0) parts.0 changed.2 in
    subst AreLeft parts.4
    (subst (λ (o : Option Change). AreLeft (with_change o parts.1)) small
    (if_differs row changed.0 (same (document row.1) (document changed.0)) parts.1 d (left_updates m rows parts.1 good s.1 parts.3)))

left_removals : (rows : Rows) → AreLeft (map removal rows)
left_removals [] = tt
left_removals (row ∷ rows) = (tt, left_removals rows)

-- ---- operations

listed : {X : Type 0} (b : Bool) (o : Outcome X) (x : X) → (if b then o else Err fault.NoCollection) ≡ Ok x → o ≡ Ok x
listed true o x is = is
listed false o x is = absurd (cc is)

roomy : (b : Bool) (a x : Applied) → (if b then Err fault.Full else Ok a) ≡ Ok x → (b ≡ false) × (a ≡ x)
roomy true a x is = absurd (cc is)
roomy false a x is = (refl, cc is)

planned : (rows : Rows) (room : ℕ) (plan : Plan) (a : Applied) → if_room rows room plan ≡ Ok a → AreDocuments rows → AreLeft plan.changes →
    IsResult plan.answer → IsApplied a
planned rows room plan a is all left answer =
    let parts = roomy (is_full (after rows plan.changes) plan.changes room) (done rows plan) a is in
    subst (λ (x : Applied). IsApplied x) parts.1
    (record {
      rows = record {
        documents = documents_after rows plan.changes all left;
        few = few_left (after rows plan.changes) plan.changes room parts.0;
      };
      answer = answer;
    })

fresh : (o : Option Entries) (b : Bool) (p plan : Plan) →
    (if is_some o then Err fault.Duplicate else (if b then Err fault.TooLarge else Ok p)) ≡ Ok plan → p ≡ plan
fresh (Some d) b p plan is = absurd (cc is)
fresh None true p plan is = absurd (cc is)
fresh None false p plan is = cc is

inserted_is : (rows : Rows) (room : ℕ) (key : Key) (doc : Entries) (plan : Plan) (a : Applied) → insertion key doc ≡ plan → IsDocument doc →
    AreDocuments rows → if_room rows room plan ≡ Ok a → IsApplied a
inserted_is rows room key doc plan a e good all is =
    planned rows room plan a is all (subst (λ (p : Plan). AreLeft p.changes) e (good, tt)) (subst (λ (p : Plan). IsResult p.answer) e (tt, omega arith))

updated_is : (rows : Rows) (room : ℕ) (found : Rows) (cs : List Change) (plan : Plan) (a : Applied) → plan_for found cs ≡ plan →
    length found ≤ max_documents → AreLeft cs → AreDocuments rows → if_room rows room plan ≡ Ok a → IsApplied a
updated_is rows room found cs plan a e few left all is =
    planned rows room plan a is all (subst (λ (p : Plan). AreLeft p.changes) e left) (subst (λ (p : Plan). IsResult p.answer) e (number_is (length found) few))

removed_is : (rows found : Rows) → AreSound rows → length found ≤ max_documents → IsApplied (done rows (remove_plan found))
removed_is rows found all few = record {
  rows = record {
    documents = documents_after rows (map removal found) all.documents (left_removals found);
    few = omega (arith, fewer_after rows found, all.few);
  };
  answer = number_is (length found) few;
}

pub applied_is : (names : List (List ℕ)) (rows : Rows) (op : Op) (room : ℕ) (a : Applied) → IsOperation op → AreSound rows →
    applied names rows op room ≡ Ok a → IsApplied a
applied_is names rows (operation.Insert collection id doc) room a good all is =
    let key = key_of collection id in
    let plan = and_then-ok (insert_plan rows key doc) (λ plan. if_room rows room plan) a (listed (is_listed names collection) _ a is) in
    inserted_is rows room key doc plan.0 a (fresh (at key_cmp rows key) (is_too_large doc) (insertion key doc) plan.0 plan.1) good all.documents plan.2
applied_is names rows (operation.Update collection selector m every) room a good all is =
    let found = chosen every (matching collection selector rows) in
    let plan = and_then-ok (update_plan m found) (λ plan. if_room rows room plan) a (listed (is_listed names collection) _ a is) in
    let changes = made-ok (λ changes. plan_for found changes) (all_updated m found) plan.0 plan.1 in
    let few : length found ≤ max_documents =
    omega (arith, fewer_chosen every (matching collection selector rows), fewer_matching collection selector rows, all.few) in
    updated_is rows room found changes.0 plan.0 a changes.2 few
    (left_updates m found changes.0 good (documents_chosen every (matching collection selector rows)
    (documents_matching collection selector rows all.documents)) changes.1) all.documents plan.2
applied_is names rows (operation.Remove collection selector) room a good all is =
    let found = matching collection selector rows in
    let e : Ok (done rows (remove_plan found)) ≡ Ok a = listed (is_listed names collection) _ a is in
    let same : done rows (remove_plan found) ≡ a = cc e in
    let few : length found ≤ max_documents = omega (arith, fewer_matching collection selector rows, all.few) in
    subst (λ (x : Applied). IsApplied x) same (removed_is rows found all few)
