-- Operations that are made or refused.
use Rattle.std.specs.Prelude.{Result, Err}
use Rattle.std.proofs.Common.{◌≡◌, ◌+◌, ◌-◌, ◌≤◌, false, List, [], ◌∷◌, ◌++◌, Some, Ok, refl, ap, sym, ◌∙◌, arith}
use Rattle.value_model.specs.Val.{Val}
use Rattle.app_model.specs.App.{App}
use Rattle.collection_store.specs.Limits.{new_bytes}
use Rattle.collection_store.specs.Outcome.{Outcome, code_of, Gives}
use Rattle.collection_store.specs.Applied.{Applied, applied}
use Rattle.collection_store.specs.declared.fault.OpFault.{OpFault}
use Rattle.collection_store.specs.declared.fault.OpFault.TheVariants as fault
use Rattle.collection_store.specs.declared.operation.Op.{Op}
use Rattle.history_model.specs.declared.entry.Entry.TheVariants as entry
use Rattle.history_model.specs.Operations.{operation_in}
use Rattle.history_model.specs.History.{room_in, is_full_for_operation, max_kept}
use Rattle.history_log.specs.Log.{entries_in, settled}
use Rattle.history_log.specs.LogLaws.{settled-push}
use Rattle.store_machine.specs.Keeping.{with_operation_made}
use Rattle.store_machine.specs.KeepingLaws.{same_answer, keeps_operated}
use Rattle.store_machine.specs.declared.fault.AdminFault.{AdminFault}
use Rattle.store_machine.specs.declared.parts.Parts.{Parts}
use Rattle.store_machine.specs.State.{MachineState, programs, held_by, refusal_of, by_answer, by_operation, AdminGives}
use Rattle.store_machine.specs.Standing.{AreSame, seen, kept_of, Stand}
use Rattle.store_machine.proofs.Standings.{kept_same, same_lives, history_after, longer_seen, stand_operated}

-- what the store answers is what the history says
pub answer_seen : (app : App) (p : Parts) (o : Op) → Stand app p → applied app.collections (held_by (seen app p)).rows o (room_in (held_by (seen app p))) ≡ applied p.store.names p.store.rows o (max_kept - p.kept)
answer_seen app p o st = sym (same_answer (programs app) (entries_in p.log) (kept_of app p) o st.keeps) ∙ ap (λ ns. applied ns p.store.rows o (max_kept - p.kept)) (sym st.names)

-- its documents have room
pub operation_fits : (app : App) (p : Parts) (op : List Val) (o : Op) (a : Applied) → Stand app p → operation_in op ≡ Some o → applied p.store.names p.store.rows o (max_kept - p.kept) ≡ Ok a → is_full_for_operation (held_by (seen app p)) ≡ false
    → p.kept + new_bytes a.changes ≤ max_kept
operation_fits app p op o a st is answer free =
    let made = ap (λ ns. applied ns p.store.rows o (max_kept - p.kept)) (sym st.names) ∙ answer in
    let more = keeps_operated (programs app) (entries_in p.log) (kept_of app p) op o a st.keeps is made free in
    omega (arith, more.bytes, more.within.kept)

-- the operation was made
pub record IsMade (app : App) (p p' : Parts) (op : List Val) (o : Op) : Type 0 where
  pub stands : Stand app p'
  pub answer : by_operation (seen app p) op (Some o) ≡ Ok (seen app p')

pub operates : (app : App) (p p' : Parts) (op : List Val) (o : Op) (a : Applied) → Stand app p → operation_in op ≡ Some o → applied p.store.names p.store.rows o (max_kept - p.kept) ≡ Ok a → is_full_for_operation (held_by (seen app p)) ≡ false
    → p'.store.names ≡ p.store.names → p'.store.rows ≡ a.rows → AreSame p.calls.entries p'.calls.entries → p'.log ≡ settled (p.log ++ record { entry = entry.Admin op; changes = [] } ∷ []) a.changes → p'.kept ≡ p.kept + new_bytes a.changes → p'.reserved ≡ p.reserved → IsMade app p p' op o
operates app p p' op o a st is answer free names rows calls log bytes more =
    let e = entry.Admin op in
    let lives = same_lives app p.calls.entries p'.calls.entries calls in
    let kept = kept_same (kept_of app p') (with_operation_made (kept_of app p) op a) rows lives bytes more (log ∙ settled-push p.log (record { entry = e; changes = [] }) a.changes) in
    let answered = ap (by_answer (seen app p) op) (answer_seen app p o st ∙ answer) in
    record {
      stands = stand_operated app p p' op o a (max_kept - p.kept) st is answer refl free names kept;
      answer = answered ∙ ap (λ (m : MachineState). let r : Result MachineState AdminFault = Ok m in r) (sym (longer_seen app p p' e (history_after p.log p'.log e [] a.changes log)));
    }

-- how a refusal is told
pub refused_gives : {T X : Type 0} (f : X → MachineState) (g : T → Applied) (m : MachineState) (op : List Val) (e : OpFault) (r : Outcome Applied) → Gives g (Err e) r → AdminGives f (Err (refusal_of (code_of e))) (by_answer m op r)
refused_gives f g m op fault.NoCollection r is = ap (by_answer m op) is
refused_gives f g m op fault.Duplicate r is = ap (by_answer m op) is
refused_gives f g m op fault.TooLarge r is = ap (by_answer m op) is
refused_gives f g m op (fault.Modifier number) r is = ap (by_answer m op) is
refused_gives f g m op fault.Full r is = ap (by_answer m op) is
refused_gives f g m op fault.Memory r is = tt
