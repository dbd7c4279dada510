-- What each call of a machine leaves a store standing at, once its entry is in the log and in the book.
use Rattle.std.specs.Prelude.{◌≡◌, ℕ, ◌+◌, ◌<◌, ◌≤◌, List, [], ◌∷◌, ◌++◌, length, ◌==◌, nat_lt, Bool, true, false, ◌||◌, Option, None, Some, is_some, Result, Ok, Err, refl}
use Rattle.std.proofs.Common.{ap, ap₂, sym, subst, ◌∙◌, arith, length-append}
use mathlib.Core.List.{IsPrefix}
use Rattle.value_model.specs.Val.{Val}
use Rattle.ejson_value.specs.declared.value.Value.{Value}
use Rattle.app_model.specs.App.{App, method}
use Rattle.history_model.specs.declared.entry.Entry.{Entry}
use Rattle.history_model.specs.declared.entry.Entry.TheVariants as entry
use Rattle.history_model.specs.History.{held, is_next, status_in, IsLegal}
use Rattle.history_model.specs.HistoryLaws.{IsLegal-append}
use Rattle.store_machine.specs.State.{MachineState, programs, held_by, with_entry, begin_answer, is_running, step_state, admin_answer}
use Rattle.shared_store.specs.declared.answers.Placed.{Placed}
use Rattle.shared_store.specs.declared.answers.SharedBegin.{SharedBegin}
use Rattle.shared_store.specs.declared.answers.SharedBegin.TheVariants as shared
use Rattle.shared_store.specs.Counting.{counted, made_by, is_of}
use Rattle.shared_store.specs.Standing.{IsHeld}
use Rattle.shared_store.specs.Store.{over, Begins, Makes}
use Rattle.store_machine.specs.declared.fault.AdminFault.{AdminFault}
use Rattle.store_machine.specs.declared.fault.AdminFault.TheVariants as admin
use Rattle.shared_store.proofs.Entries.{begin_grows, begin_stays, begin_legal, step_grows, step_legal, admin_grows}
use Rattle.shared_store.proofs.Counts.{counted-append, made-append}

-- the machine is that of the history
pub held_is : (app : App) (m : MachineState) (w : List Entry) (total : ℕ) → IsHeld app m w total → m ≡ over app w
held_is app m w total h = λ i. record { app = h.of_app i; history = h.whole i }

grown : (app : App) (m m' : MachineState) (w w' : List Entry) (total total' count : ℕ) (e : Entry) → IsHeld app m w total → m' ≡ with_entry m e → w' ≡ w ++ e ∷ [] → total' ≡ total + count → counted (e ∷ []) ≡ count
    → IsLegal (programs app) (w ++ e ∷ []) → IsHeld app m' w' total'
grown app m m' w w' total total' count e h is longer more counts legal = record {
  of_app = ap (λ (x : MachineState). x.app) is ∙ h.of_app;
  whole = ap (λ (x : MachineState). x.history) is ∙ (ap (λ (es : List Entry). es ++ e ∷ []) h.whole ∙ sym longer);
  legal = subst (IsLegal (programs app)) (sym longer) legal;
  adds_up =
      let a = counted-append w (e ∷ []) in
      let b = ap counted longer in
      omega (arith, a, b, more, counts, h.adds_up);
}

-- ---- a call begins

module _ (app : App) (m m' : MachineState) (w w' : List Entry) (total total' : ℕ) (s k : ℕ) (name : List ℕ) (params : List Val) (seed : Value) where
  abbrev e : Entry
  e = entry.Begin s k name params seed

  pub begin_held : IsHeld app m w total → is_some (method app name) ≡ true → (is_some (status_in (held_by m) s k) || is_next s k (held_by m).runs) ≡ true → begin_answer m s k name params seed ≡ Ok m'
      → length m.history < length m'.history → w' ≡ w ++ e ∷ [] → total' ≡ total + 1 → IsHeld app m' w' total'
  begin_held h known may answer more longer one =
      let g = begin_grows m m' s k name params seed answer more in
      grown app m m' w w' total total' 1 e h g.0 longer one refl
      (subst (λ (x : MachineState). IsLegal (programs x.app) (x.history ++ e ∷ [])) (held_is app m w total h)
      (begin_legal m.app m.history s k name params seed
      (subst (λ (x : MachineState). IsLegal (programs x.app) x.history) (sym (held_is app m w total h)) h.legal)
      (subst (λ (a : App). is_some (method a name) ≡ true) (sym h.of_app) known) may g.1 g.2))

  pub begin_same : IsHeld app m w total → begin_answer m s k name params seed ≡ Ok m' → length m'.history ≤ length m.history → IsHeld app m' w total
  begin_same h answer less = subst (λ (x : MachineState). IsHeld app x w total) (sym (begin_stays m m' s k name params seed answer less)) h

  pub begun_over : IsHeld app m w total → IsHeld app m' w' total' → begin_answer m s k name params seed ≡ Ok m' → begin_answer (over app w) s k name params seed ≡ Ok (over app w')
  begun_over h h' answer =
      ap (λ (x : MachineState). begin_answer x s k name params seed) (sym (held_is app m w total h)) ∙ (answer ∙ ap (λ (x : MachineState). Ok x) (held_is app m' w' total' h'))

own_one : (s k : ℕ) (name : List ℕ) (params : List Val) (seed : Value) → 0 < s → made_by s (entry.Begin s k name params seed ∷ []) ≡ 1
own_one s k name params seed some =
    let same : (s == s) ≡ true = grind arith in
    let above : nat_lt 0 s ≡ true = grind arith in
    rw (same, above) refl

-- a call that has begun is one more of its session, if it is an entry
counts_of : (app : App) (before after : List Entry) (s k : ℕ) (name : List ℕ) (params : List Val) (seed : Value) → 0 < s → begin_answer (over app before) s k name params seed ≡ Ok (over app after) →
    (made_by s after + length before ≡ made_by s before + length after) × (length before ≤ length after)
counts_of app before after s k name params seed some answer = by (nat_lt (length before) (length after)) refl
  where
    e : Entry
    e = entry.Begin s k name params seed

    by : (b : Bool) → nat_lt (length before) (length after) ≡ b → (made_by s after + length before ≡ made_by s before + length after) × (length before ≤ length after)
    by true is =
        let more : length before < length after = grind arith in
        let g = begin_grows (over app before) (over app after) s k name params seed answer more in
        let longer : after ≡ before ++ e ∷ [] = ap (λ (x : MachineState). x.history) g.0 in
        let own : made_by s (e ∷ []) ≡ 1 = own_one s k name params seed some in
        let a = made-append s before (e ∷ []) in
        let b = ap (made_by s) longer in
        let l = ap length longer ∙ length-append before (e ∷ []) in
        (omega (arith, own, a, b, l), omega (arith, l))
    by false is =
        let less : length after ≤ length before = grind arith in
        let same : after ≡ before = ap (λ (x : MachineState). x.history) (begin_stays (over app before) (over app after) s k name params seed answer less) in
        (rw same refl, omega (arith, ap length same))

pub begun_counts : (app : App) (before after : List Entry) (s k : ℕ) (name : List ℕ) (params : List Val) (seed : Value) (result : Result Placed SharedBegin) → 0 < s → Begins app s k name params seed before after result →
    (made_by s after + length before ≡ made_by s before + length after) × (length before ≤ length after)
begun_counts app before after s k name params seed (Ok placed) some b = counts_of app before after s k name params seed some b.does
begun_counts app before after s k name params seed (Err (shared.Full entries kept)) some b = (rw b.0 refl, omega (arith, ap length b.0))
begun_counts app before after s k name params seed (Err (shared.NotNext last)) some b = (rw b.0 refl, omega (arith, ap length b.0))
begun_counts app before after s k name params seed (Err shared.Memory) some b = (rw b refl, omega (arith, ap length b))

-- ---- a step

pub step_held : (app : App) (m m' : MachineState) (w w' : List Entry) (total : ℕ) (s k : ℕ) → IsHeld app m w total → m' ≡ step_state m s k → is_running m s k ≡ true → w' ≡ w ++ entry.Step s k ∷ [] → IsHeld app m' w' total
step_held app m m' w w' total s k h is goes longer =
    let more = is ∙ step_grows m s k goes in
    grown app m m' w w' total total 0 (entry.Step s k) h more longer (omega arith) refl
    (subst (λ (x : MachineState). IsLegal (programs x.app) (x.history ++ entry.Step s k ∷ [])) (held_is app m w total h)
    (step_legal m.app m.history s k (subst (λ (x : MachineState). IsLegal (programs x.app) x.history) (sym (held_is app m w total h)) h.legal) goes))

-- ---- an operation

pub admin_held : (app : App) (m m' : MachineState) (w w' : List Entry) (total total' : ℕ) (op : List Val) → IsHeld app m w total → admin_answer m op ≡ Ok m' → w' ≡ w ++ entry.Admin op ∷ [] → total' ≡ total + 1 → IsHeld app m' w' total'
admin_held app m m' w w' total total' op h answer longer one =
    let g = admin_grows m m' op answer in
    grown app m m' w w' total total' 1 (entry.Admin op) h g.0 longer one refl
    (subst (λ (x : MachineState). IsLegal (programs x.app) (x.history ++ entry.Admin op ∷ [])) (held_is app m w total h)
    (IsLegal-append (programs m.app) m.history (entry.Admin op) (subst (λ (x : MachineState). IsLegal (programs x.app) x.history) (sym (held_is app m w total h)) h.legal) g.1))

pub made_over : (app : App) (m m' : MachineState) (w w' : List Entry) (total total' : ℕ) (op : List Val) → IsHeld app m w total → IsHeld app m' w' total' → admin_answer m op ≡ Ok m' → admin_answer (over app w) op ≡ Ok (over app w')
made_over app m m' w w' total total' op h h' answer =
    ap (λ (x : MachineState). admin_answer x op) (sym (held_is app m w total h)) ∙ (answer ∙ ap (λ (x : MachineState). Ok x) (held_is app m' w' total' h'))

pub made_counts : (app : App) (before after : List Entry) (op : List Val) (result : Result ℕ AdminFault) → Makes app op before after result →
    (made_by 0 after + length before ≡ made_by 0 before + length after) × (length before ≤ length after)
made_counts app before after op (Ok place) b =
    let a = made-append 0 before (entry.Admin op ∷ []) in
    let c = ap (made_by 0) b.history in
    let l = ap length b.history ∙ length-append before (entry.Admin op ∷ []) in
    (omega (arith, a, c, l), omega (arith, l))
made_counts app before after op (Err (admin.Refused code)) b = (rw b.0 refl, omega (arith, ap length b.0))
made_counts app before after op (Err admin.Memory) b = (rw b refl, omega (arith, ap length b))
