-- Laws: What is told beside a machine, whose history gets longer.
use Rattle.std.specs.Prelude.{◌≡◌, ℕ, List, [], ◌∷◌, ◌++◌, Bool, true, false, cond, is_some, Option, Some, None, Result, Ok, Err, OnErr, refl}
use Rattle.std.proofs.Common.{ap, sym, subst, ◌∙◌, append-nil, append_assoc}
use Rattle.value_model.specs.Val.{Val}
use Rattle.ejson_value.specs.View.{view}
use Rattle.ejson_value.specs.declared.value.Value.{Value}
use Rattle.collection_store.specs.declared.operation.Op.{Op}
use Rattle.collection_store.specs.Outcome.{Outcome}
use Rattle.collection_store.specs.Applied.{Applied, applied}
use Rattle.connection_laws.specs.history_model.declared.entry.Entry.{Entry}
use Rattle.connection_laws.specs.history_model.declared.entry.Entry.TheVariants as entry
use Rattle.connection_laws.specs.history_model.Operations.{operation_in}
use Rattle.connection_laws.specs.history_model.History.{status_in, room_in, is_full, is_full_for_operation}
use Rattle.connection_laws.specs.store_machine.declared.fault.BeginFault.{BeginFault}
use Rattle.connection_laws.specs.store_machine.declared.fault.AdminFault.{AdminFault}
use Rattle.connection_laws.specs.store_machine.declared.fault.AdminFault.TheVariants as admin
use Rattle.connection_laws.specs.store_machine.State.{MachineState, programs, held_by, with_entry, full_with, begin_answer, is_running, step_state}
use Rattle.connection_laws.specs.store_machine.State.{by_answer, by_operation, admin_answer, BeginGives, AdminGives}
use Rattle.multiplexer.specs.Telling.{ANews, nothing_told}
use Rattle.multiplexer.specs.LongerLaws.{told_longer, nothing_told_yet}
use Rattle.world_news_laws.specs.Sources.{cursors_at_of}
use Rattle.world_news_laws.specs.News.{AreNews, GoesOn}

pub nothing_is_news : (m : MachineState) → AreNews m nothing_told
nothing_is_news m = nothing_told_yet (cursors_at_of m.app) m

pub news_go_on : (old new : MachineState) (news : ANews) → GoesOn old new → AreNews old news → AreNews new news
news_go_on old new news on told =
    let longer = told_longer (cursors_at_of old.app) old on.more news told in
    let to : record old { history = old.history ++ on.more } ≡ new = λ i. record { app = sym on.app i; history = sym on.history i } in
    subst (λ (m : MachineState). AreNews m news) to longer

-- ---- machines that go on

pub stays_on : (m : MachineState) → GoesOn m m
stays_on m = record { app = refl; more = []; history = sym (append-nil m.history) }

pub then_on : (a b c : MachineState) → GoesOn a b → GoesOn b c → GoesOn a c
then_on a b c p q = record {
  app = q.app ∙ p.app;
  more = p.more ++ q.more;
  history = q.history ∙ (ap (λ (h : List Entry). h ++ q.more) p.history ∙ append_assoc a.history p.more q.more);
}

pub longer_on : (m : MachineState) (es : List Entry) → GoesOn m (record m { history = m.history ++ es })
longer_on m es = record { app = refl; more = es; history = refl }

entry_on : (m : MachineState) (e : Entry) → GoesOn m (with_entry m e)
entry_on m e = longer_on m (e ∷ [])

pub step_on : (m : MachineState) (session k : ℕ) → GoesOn m (step_state m session k)
step_on m session k = elim (is_running m session k) as
    (λ b. GoesOn m (cond b (with_entry m (entry.Step session k)) m)) [ true ↦ entry_on m (entry.Step session k) | false ↦ stays_on m ]

-- ---- what a machine answers

same_next : {E : Type 0} (a b : MachineState) → (let r : Result MachineState E = Ok a in r) ≡ Ok b → a ≡ b
same_next a b e = cc e

begun_on : (m next : MachineState) (e : Entry) (fault : BeginFault) (there full : Bool) →
    (let none : Result MachineState BeginFault = Err fault in cond there (Ok m) (cond full none (Ok (with_entry m e)))) ≡ Ok next → GoesOn m next
begun_on m next e fault true full is = subst (GoesOn m) (same_next m next is) (stays_on m)
begun_on m next e fault false true is = cc is
begun_on m next e fault false false is = subst (GoesOn m) (same_next (with_entry m e) next is) (entry_on m e)

-- as the contract of `begin` says it
pub begin_on : {T : Type 0} (m next : MachineState) (session k : ℕ) (name : List ℕ) (params : List Val) (seed : Value) (result : Result T BeginFault) →
    BeginGives (λ (t : T). next) result (begin_answer m session k name params seed) → OnErr result (next ≡ m) → GoesOn m next
begin_on m next session k name params seed (Ok t) gives same =
    begun_on m next (entry.Begin session k name params seed) (full_with m name params (view seed)) (is_some (status_in (held_by m) session k))
    (is_full (programs m.app) (held_by m) name params (view seed)) gives
begin_on m next session k name params seed (Err e) gives same = subst (GoesOn m) (sym same) (stays_on m)

answered_on : (m next : MachineState) (op : List Val) (answer : Outcome Applied) → by_answer m op answer ≡ Ok next → GoesOn m next
answered_on m next op (Ok done) is = subst (GoesOn m) (same_next (with_entry m (entry.Admin op)) next is) (entry_on m (entry.Admin op))
answered_on m next op (Err refusal) is = cc is

operated_on : (m next : MachineState) (op : List Val) (o : Option Op) → by_operation m op o ≡ Ok next → GoesOn m next
operated_on m next op None is = cc is
operated_on m next op (Some o) is = answered_on m next op (applied m.app.collections (held_by m).rows o (room_in (held_by m))) is

administered_on : (m next : MachineState) (op : List Val) (full : Bool) →
    (let none : Result MachineState AdminFault = Err (admin.Refused 503) in cond full none (by_operation m op (operation_in op))) ≡ Ok next → GoesOn m next
administered_on m next op true is = cc is
administered_on m next op false is = operated_on m next op (operation_in op) is

-- as that of `admin` says it
pub admin_on : {T : Type 0} (m next : MachineState) (op : List Val) (result : Result T AdminFault) →
    AdminGives (λ (t : T). next) result (admin_answer m op) → OnErr result (next ≡ m) → GoesOn m next
admin_on m next op (Ok t) gives same = administered_on m next op (is_full_for_operation (held_by m)) gives
admin_on m next op (Err e) gives same = subst (GoesOn m) (sym same) (stays_on m)
