-- What an operation answers: an insert its id, another a number.
use Rattle.std.specs.Prelude.{◌≡◌, ℕ, pos, List, length, Bool, true, false, is_some, Ok, Err, if◌then◌else◌}
use Rattle.std.proofs.Common.{ap, sym, ◌∙◌}
use Rattle.map_model.specs.Maps.{at}
use Rattle.ejson_value.specs.Key.{key_cmp, key_of}
use Rattle.ejson_value.specs.Rows.{Rows}
use Rattle.ejson_value.specs.ResultLaws.{made-ok, and_then-ok}
use Rattle.collection_store.specs.declared.fault.OpFault.{OpFault}
use Rattle.collection_store.specs.declared.fault.OpFault.TheVariants as fault
use Rattle.collection_store.specs.declared.operation.Op.{Op}
use Rattle.collection_store.specs.declared.operation.Op.TheVariants as operation
use Rattle.collection_store.specs.Outcome.{Outcome}
use Rattle.collection_store.specs.Limits.{is_too_large, is_full}
use Rattle.collection_store.specs.Applied.{Plan, Applied, is_listed, after, done, matching, chosen, insertion, insert_plan, update_plan, all_updated, remove_plan, plan_for, if_room, applied}
use Rattle.program_run.specs.Planned.{inserted_id, IsAnswer}

unless : {X : Type 0} (b : Bool) (e : OpFault) (o : Outcome X) (x : X) → (if b then Err e else o) ≡ Ok x → o ≡ Ok x
unless true e o x is = absurd (cc is)
unless false e o x is = is

listed : {X : Type 0} (b : Bool) (o : Outcome X) (x : X) → (if b then o else Err fault.NoCollection) ≡ Ok x → o ≡ Ok x
listed true o x is = is
listed false o x is = absurd (cc is)

planned : (rows : Rows) (room : ℕ) (plan : Plan) (a : Applied) → if_room rows room plan ≡ Ok a → plan.answer ≡ a.answer
planned rows room plan a is =
    let e : Ok (done rows plan) ≡ Ok a = unless (is_full (after rows plan.changes) plan.changes room) fault.Full (Ok (done rows plan)) a is in
    let same : done rows plan ≡ a = cc e in
    ap (λ (x : Applied). x.answer) same

pub answer_is : (names : List (List ℕ)) (rows : Rows) (op : Op) (room : ℕ) (a : Applied) → applied names rows op room ≡ Ok a → IsAnswer (inserted_id op) a.answer
answer_is names rows (operation.Insert collection id doc) room a is =
    let key = key_of collection id in
    let plan = and_then-ok (insert_plan rows key doc) (λ plan. if_room rows room plan) a (listed (is_listed names collection) _ a is) in
    let fresh = unless (is_some (at key_cmp rows key)) fault.Duplicate _ plan.0 plan.1 in
    let small : Ok (insertion key doc) ≡ Ok plan.0 = unless (is_too_large doc) fault.TooLarge _ plan.0 fresh in
    let same : insertion key doc ≡ plan.0 = cc small in
    sym (ap (λ (p : Plan). p.answer) same ∙ planned rows room plan.0 a plan.2)
answer_is names rows (operation.Update collection selector m every) room a is =
    let found = chosen every (matching collection selector rows) in
    let plan = and_then-ok (update_plan m found) (λ plan. if_room rows room plan) a (listed (is_listed names collection) _ a is) in
    let changes = made-ok (λ changes. plan_for found changes) (all_updated m found) plan.0 plan.1 in
    (pos (length found), sym (ap (λ (p : Plan). p.answer) changes.2 ∙ planned rows room plan.0 a plan.2))
answer_is names rows (operation.Remove collection selector) room a is =
    let found = matching collection selector rows in
    let e : Ok (done rows (remove_plan found)) ≡ Ok a = listed (is_listed names collection) _ a is in
    let same : done rows (remove_plan found) ≡ a = cc e in
    (pos (length found), sym (ap (λ (x : Applied). x.answer) same))
