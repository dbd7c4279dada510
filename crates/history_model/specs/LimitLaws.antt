-- A legal history keeps to its limits.
use Rattle.std.specs.Prelude.{◌≡◌, ℕ, suc, ◌+◌, List, [], ◌∷◌, length, sum_by, Bool, true, false, cond, not, ◌&&◌, nat_lt, Option, None, Some}
use Rattle.std.specs.Prelude.{is_some, IfSome, Ok, Err, IsTrue, refl, if◌then◌else◌}
use Rattle.std.specs.List.{AllByRecursion}
use Rattle.std.specs.Map.{keys_of}
use Rattle.std.specs.BTreeMap.{insert_entry}
use Rattle.std.specs.declared.cmp.Ordering.TheVariants.{Less, Equal, Greater}
use Rattle.std.specs.Ordering.{is_eq, match_ordering}
use Rattle.std.proofs.Common.{ap, sym, subst, ◌∙◌, arith}
use Rattle.std.proofs.lemmas.Bool.{ltb-false, or_parts, and_parts, not-true}
use Rattle.std.proofs.lemmas.List.Sums.{sum_by-cons}
use Rattle.std.proofs.lemmas.Map.Keys.{sorted_head, sorted_tail}
use Rattle.map_model.specs.Maps.{at, set, IsSorted}
use Rattle.value_model.specs.Val.{Val}
use Rattle.ejson_value.specs.View.{view}
use Rattle.collection_store.specs.Outcome.{Outcome}
use Rattle.collection_store.specs.Applied.{Applied, applied}
use Rattle.collection_store.specs.declared.operation.Op.{Op}
use Rattle.collection_store.proofs.Leading.{applied_does}
use Rattle.program_steps.specs.declared.step.ProgramStep.{ProgramStep}
use Rattle.program_model.specs.Run.{begun}
use Rattle.program_model.specs.Steps.{stepped}
use Rattle.program_model.specs.Kept.{is_over, IsRun}
use Rattle.program_model.specs.RunLaws.{stepped_less, begun_left}
use Rattle.program_model.specs.StepLaws.{stepped_does}
use Rattle.history_model.specs.declared.entry.Entry.{Entry}
use Rattle.history_model.specs.declared.entry.Entry.TheVariants as entry
use Rattle.history_model.specs.Operations.{operation_in}
use Rattle.history_model.specs.History.{Programs, RunKey, run_cmp, Begun, Runs, Held, nothing, later, room_in, setting_in, steps_of, with_begin}
use Rattle.history_model.specs.History.{with_stepped, no_steps, goes_on, with_step, with_answer, with_operation, carried, held_from, held}
use Rattle.history_model.specs.History.{max_entries, max_kept, reserved, entries_with, kept_with, is_full, is_full_for_operation, is_next}
use Rattle.history_model.specs.History.{is_answered, is_made, can_follow, IsLegalFrom, IsLegal}
use Rattle.history_model.specs.Bounds.{IsBegun, IsHeld, IsWithin}
use Rattle.history_model.specs.HistoryLaws.{run_order}
use Rattle.history_model.specs.RunsLaws.{carried_is, held_is}

-- ---- the steps that are still to come

abbrev pub left_of : Option Begun → ℕ
left_of None = 0
left_of (Some b) = length b.run.left

abbrev weight : RunKey × Begun → ℕ
weight r = length r.1.run.left

none_behind : (key : RunKey) (runs : Runs) → AllByRecursion (λ k. run_cmp key k ≡ Less) (keys_of runs) → at run_cmp runs key ≡ None
none_behind key [] h = refl
none_behind key (r ∷ runs) h = ap (λ o. cond (is_eq o) (Some r.1) (at run_cmp runs key)) h.0 ∙ none_behind key runs h.1

behind_all : (key first : RunKey) (ks : List RunKey) → run_cmp key first ≡ Less → AllByRecursion (λ k. run_cmp first k ≡ Less) ks →
    AllByRecursion (λ k. run_cmp key k ≡ Less) ks
behind_all key first [] e h = tt
behind_all key first (k ∷ ks) e h = (run_order.total.trans key first k e h.0, behind_all key first ks e h.1)

reserved-set : (runs : Runs) (key : RunKey) (b : Begun) → IsSorted run_cmp runs →
    reserved (set run_cmp runs key (Some b)) + left_of (at run_cmp runs key) ≡ reserved runs + length b.run.left
reserved-set [] key b s = omega (arith, sum_by-cons weight (key, b) [])
reserved-set (r ∷ runs) key b s =
    let rest = reserved-set runs key b (sorted_tail run_cmp r.0 (keys_of runs) s) in
    let put = insert_entry run_cmp runs key b in
    elim (run_cmp key r.0)
    as (λ o. run_cmp key r.0 ≡ o → sum_by weight (match_ordering o ((key, b) ∷ r ∷ runs) ((r.0, b) ∷ runs) (r ∷ put))
    + left_of (cond (is_eq o) (Some r.1) (at run_cmp runs key)) ≡ sum_by weight (r ∷ runs) + length b.run.left) [
      | Less ↦ λ e.
          let none : left_of (at run_cmp runs key) ≡ 0 =
          ap left_of (none_behind key runs (behind_all key r.0 (keys_of runs) e (sorted_head run_cmp r.0 (keys_of runs) s))) in
          omega (arith, none, sum_by-cons weight (key, b) (r ∷ runs))
      | Equal ↦ λ e. omega (arith, sum_by-cons weight r runs, sum_by-cons weight (r.0, b) runs)
      | Greater ↦ λ e. omega (arith, sum_by-cons weight r runs, sum_by-cons weight r put, rest)
    ] refl

-- ---- one entry

begin_within : (app : Programs) (h : Held) (key : RunKey) (method : List ℕ) (params : List Val) (seed : Val) (o : Option Begun) →
    at run_cmp h.runs key ≡ o → IsHeld h → IsWithin h → is_full app h method params seed ≡ false → IsWithin (with_begin app h key method params seed o)
begin_within app h key method params seed (Some b) is i w free =
    let parts = or_parts (nat_lt max_entries (entries_with h (length (steps_of (app.method method))))) (nat_lt max_kept (kept_with h params seed)) free in
    let more = ltb-false max_entries (entries_with h (length (steps_of (app.method method)))) parts.0 in
    record { kept = w.kept; entries = omega (arith, more) }
begin_within app h key method params seed None is i w free =
    let steps = steps_of (app.method method) in
    let parts = or_parts (nat_lt max_entries (entries_with h (length steps))) (nat_lt max_kept (kept_with h params seed)) free in
    let more = ltb-false max_entries (entries_with h (length steps)) parts.0 in
    let bytes = ltb-false max_kept (kept_with h params seed) parts.1 in
    let b : Begun = record { run = begun params seed steps; at = suc h.entries } in
    record { kept = omega (arith, bytes); entries = omega (arith, more, reserved-set h.runs key b i.sorted, begun_left params seed steps, ap left_of is) }

not_over : (left : List ProgramStep) → no_steps left ≡ false → is_over left ≡ false
not_over [] e = e
not_over (step ∷ steps) e = refl

stepped_within : (app : Programs) (h : Held) (key : RunKey) (b : Begun) → at run_cmp h.runs key ≡ Some b → IsRun b.run → no_steps b.run.left ≡ false →
    IsHeld h → IsWithin h → IsWithin (with_stepped h key (stepped (setting_in app h) h.rows b.run))
stepped_within app h key b is run going i w =
    let s = stepped (setting_in app h) h.rows b.run in
    let less = stepped_less (setting_in app h) h.rows b.run run (not_over b.run.left going) in
    let fits = (stepped_does (setting_in app h) h.rows b.run i.rows).fits in
    record {
      kept = omega (arith, fits, w.kept);
      entries = omega (arith, less, w.entries, reserved-set h.runs key (record { run = s.run; at = suc h.entries }) i.sorted, ap left_of is);
    }

step_within : (app : Programs) (h : Held) (key : RunKey) (o : Option Begun) → at run_cmp h.runs key ≡ o → IfSome o (IsBegun h.entries) →
    goes_on o ≡ true → IsHeld h → IsWithin h → IsWithin (with_step app h key o)
step_within app h key None is b goes i w = absurd (cc goes)
step_within app h key (Some b) is run goes i w =
    let going = not-true (no_steps b.run.left) goes in
    subst (λ (c : Bool). IsWithin (if c then later h else with_stepped h key (stepped (setting_in app h) h.rows b.run))) (sym going)
    (stepped_within app h key b is run.0 going i w)

answer_within : (app : Programs) (h : Held) (op : Op) (o : Outcome Applied) → applied app.collections h.rows op (room_in h) ≡ o → is_answered o ≡ true →
    is_full_for_operation h ≡ false → IsHeld h → IsWithin h → IsWithin (with_answer h o)
answer_within app h op (Err e) is ok free i w = absurd (cc ok)
answer_within app h op (Ok a) is ok free i w =
    let fits = (applied_does app.collections h.rows op (room_in h) a i.rows is).fits in
    let more = ltb-false max_entries (entries_with h 0) free in
    record { kept = omega (arith, fits, w.kept); entries = omega (arith, more) }

operation_within : (app : Programs) (h : Held) (o : Option Op) → is_made app h o ≡ true → is_full_for_operation h ≡ false → IsHeld h → IsWithin h →
    IsWithin (with_operation app h o)
operation_within app h None ok free i w = absurd (cc ok)
operation_within app h (Some op) ok free i w = answer_within app h op (applied app.collections h.rows op (room_in h)) refl ok free i w

pub carried_within : (app : Programs) (h : Held) (e : Entry) → IsTrue (can_follow app h e) → IsHeld h → IsWithin h → IsWithin (carried app h e)
carried_within app h (entry.Begin session k method params seed) can i w =
    let parts = and_parts (is_some (app.method method) && is_next session k h.runs) (not (is_full app h method params (view seed))) can in
    begin_within app h (session, k) method params (view seed) (at run_cmp h.runs (session, k)) refl i w
    (not-true (is_full app h method params (view seed)) parts.1)
carried_within app h (entry.Step session k) can i w = step_within app h (session, k) (at run_cmp h.runs (session, k)) refl (i.begun (session, k)) can i w
carried_within app h (entry.Admin op) can i w =
    let parts = and_parts (not (is_full_for_operation h)) (is_made app h (operation_in op)) can in
    operation_within app h (operation_in op) parts.1 (not-true (is_full_for_operation h) parts.0) i w

from_within : (app : Programs) (h : Held) (es : List Entry) → IsLegalFrom app h es → IsHeld h → IsWithin h → IsWithin (held_from app h es)
from_within app h [] l i w = w
from_within app h (e ∷ es) l i w = from_within app (carried app h e) es l.1 (carried_is app h e i) (carried_within app h e l.0 i w)

-- what a legal history keeps, and its entries with those to come, stay within the limits
pub legal_within : (app : Programs) (history : List Entry) → IsLegal app history → IsWithin (held app history)
legal_within app history l = from_within app nothing history l (held_is app []) (record { kept = omega arith; entries = omega arith })
