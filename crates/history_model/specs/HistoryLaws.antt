-- Laws of histories.
use Rattle.std.specs.Prelude.{◌≡◌, ℕ, zero, suc, ◌+◌, ◌≤◌, List, [], ◌∷◌, ◌++◌, length, take, drop, Bool, true, false, cond, Option, None, Some}
use Rattle.std.specs.Prelude.{IsTrue, Ok, Err, refl}
use Rattle.std.specs.declared.cmp.Ordering.TheVariants.{Equal}
use Rattle.std.specs.FinMap.{nat_cmp-IsAntisymmetric}
use Rattle.std.specs.Ordering.{nat_cmp}
use Rattle.std.proofs.Common.{ap, sym, subst, ◌∙◌, arith}
use Rattle.std.proofs.lemmas.List.{map-append}
use Rattle.std.proofs.lemmas.Cmp.{nat_cmp_total, on_total, then_total}
use Rattle.map_model.specs.Maps.{at, IsSorted, IsKeyOrder}
use Rattle.map_model.specs.MapLaws.{sorted-nil}
use Rattle.map_model.specs.Changes.{Leads}
use Rattle.map_model.specs.ChangeLaws.{Leads-append, Leads-nil, sorted-changed}
use Rattle.value_model.specs.Val.{Val}
use Rattle.value_model.specs.OrderLaws.{then_ties}
use Rattle.ejson_value.specs.declared.change.Change.{Change}
use Rattle.ejson_value.specs.Key.{key_cmp, key_order}
use Rattle.ejson_value.specs.Rows.{Rows}
use Rattle.ejson_value.specs.View.{view}
use Rattle.ejson_value.specs.Changes.{change_of, changes_of}
use Rattle.collection_store.specs.Outcome.{Outcome}
use Rattle.collection_store.specs.Applied.{Applied, applied}
use Rattle.collection_store.specs.declared.operation.Op.{Op}
use Rattle.collection_store.proofs.Leading.{applied_does}
use Rattle.program_model.specs.Steps.{stepped}
use Rattle.program_model.specs.StepLaws.{stepped_does}
use Rattle.history_model.specs.declared.entry.Entry.{Entry}
use Rattle.history_model.specs.declared.entry.Entry.TheVariants as entry
use Rattle.history_model.specs.Operations.{operation_in}
use Rattle.history_model.specs.History.{Programs, RunKey, run_cmp, Begun, Held, nothing, later, room_in, setting_in, with_begin, with_stepped}
use Rattle.history_model.specs.History.{no_steps, with_step, with_answer, with_operation, carried, held_from, held, held_at, answer_changes}
use Rattle.history_model.specs.History.{operation_changes, step_changes, changes_by, changes_from, changes_between, can_follow, IsLegalFrom, IsLegal}

-- ---- keys of runs

run_exact : (a b : RunKey) → run_cmp a b ≡ Equal → a ≡ b
run_exact a b e =
    let both = then_ties (nat_cmp a.0 b.0) (nat_cmp a.1 b.1) e in
    let session : a.0 ≡ b.0 = nat_cmp-IsAntisymmetric a.0 b.0 both.0 in
    let call : a.1 ≡ b.1 = nat_cmp-IsAntisymmetric a.1 b.1 both.1 in
    λ i. (session i, call i)

pub run_order : IsKeyOrder run_cmp
run_order = record { total = then_total (on_total (λ (k : RunKey). k.0) nat_cmp_total) (on_total (λ (k : RunKey). k.1) nat_cmp_total); exact = run_exact }

-- ---- one history behind another

pub held_from-append : (app : Programs) (h : Held) (es fs : List Entry) → held_from app h (es ++ fs) ≡ held_from app (held_from app h es) fs
held_from-append app h [] fs = refl
held_from-append app h (e ∷ es) fs = held_from-append app (carried app h e) es fs

pub held-append : (app : Programs) (history : List Entry) (e : Entry) → held app (history ++ e ∷ []) ≡ carried app (held app history) e
held-append app history e = held_from-append app nothing history (e ∷ [])

pub take-within : {A : Type 0} (n : ℕ) (xs ys : List A) → n ≤ length xs → take n (xs ++ ys) ≡ take n xs
take-within zero xs ys h = refl
take-within (suc n) [] ys h = absurd (omega (arith, h))
take-within (suc n) (x ∷ xs) ys h = let h' : n ≤ length xs = omega (arith, h) in ap (λ zs. x ∷ zs) (take-within n xs ys h')

-- a longer history leaves what is held at its earlier places
pub held_at-longer : (app : Programs) (history more : List Entry) (place : ℕ) → place ≤ length history →
    held_at app (history ++ more) place ≡ held_at app history place
held_at-longer app history more place fits = ap (held app) (take-within place history more fits)

take_none : {A : Type 0} (n : ℕ) (xs : List A) → xs ≡ [] → take n xs ≡ []
take_none zero xs e = refl
take_none (suc n) [] e = refl
take_none (suc n) (x ∷ xs) e = absurd (cc e)

take_more : {A : Type 0} (p n : ℕ) (xs : List A) → take (p + n) xs ≡ take p xs ++ take n (drop p xs)
take_more zero n xs = let e : zero + n ≡ n = omega arith in ap (λ m. take m xs) e
take_more (suc p) n [] = take_none (suc p + n) [] refl ∙ sym (take_none n [] refl)
take_more (suc p) n (x ∷ xs) = let e : suc p + n ≡ suc (p + n) = omega arith in ap (λ m. take m (x ∷ xs)) e ∙ ap (λ ys. x ∷ ys) (take_more p n xs)

-- ---- how many entries there are

begin_entries : (app : Programs) (h : Held) (key : RunKey) (method : List ℕ) (params : List Val) (seed : Val) (o : Option Begun) →
    (with_begin app h key method params seed o).entries ≡ suc h.entries
begin_entries app h key method params seed None = refl
begin_entries app h key method params seed (Some b) = refl

step_entries : (app : Programs) (h : Held) (key : RunKey) (o : Option Begun) → (with_step app h key o).entries ≡ suc h.entries
step_entries app h key None = refl
step_entries app h key (Some b) = elim (no_steps b.run.left) as
    (λ (c : Bool). (cond c (later h) (with_stepped h key (stepped (setting_in app h) h.rows b.run))).entries ≡ suc h.entries) [ true ↦ refl | false ↦ refl ]

answer_entries : (h : Held) (o : Outcome Applied) → (with_answer h o).entries ≡ suc h.entries
answer_entries h (Ok a) = refl
answer_entries h (Err e) = refl

operation_entries : (app : Programs) (h : Held) (o : Option Op) → (with_operation app h o).entries ≡ suc h.entries
operation_entries app h None = refl
operation_entries app h (Some op) = answer_entries h (applied app.collections h.rows op (room_in h))

pub carried_entries : (app : Programs) (h : Held) (e : Entry) → (carried app h e).entries ≡ suc h.entries
carried_entries app h (entry.Begin session k method params seed) = begin_entries app h (session, k) method params (view seed) (at run_cmp h.runs (session, k))
carried_entries app h (entry.Step session k) = step_entries app h (session, k) (at run_cmp h.runs (session, k))
carried_entries app h (entry.Admin op) = operation_entries app h (operation_in op)

entries_from : (app : Programs) (h : Held) (es : List Entry) → (held_from app h es).entries ≡ h.entries + length es
entries_from app h [] = omega arith
entries_from app h (e ∷ es) = omega (arith, entries_from app (carried app h e) es, carried_entries app h e)

pub held_entries : (app : Programs) (history : List Entry) → (held app history).entries ≡ length history
held_entries app history = omega (arith, entries_from app nothing history)

-- ---- changes lead from documents to documents

begin_leads : (app : Programs) (h : Held) (key : RunKey) (method : List ℕ) (params : List Val) (seed : Val) (o : Option Begun) →
    Leads key_cmp [] h.rows (with_begin app h key method params seed o).rows
begin_leads app h key method params seed None = Leads-nil key_cmp h.rows
begin_leads app h key method params seed (Some b) = Leads-nil key_cmp h.rows

step_leads : (app : Programs) (h : Held) (key : RunKey) (o : Option Begun) → IsSorted key_cmp h.rows →
    Leads key_cmp (changes_of (step_changes app h o)) h.rows (with_step app h key o).rows
step_leads app h key None sorted = Leads-nil key_cmp h.rows
step_leads app h key (Some b) sorted =
    let s = stepped (setting_in app h) h.rows b.run in
    elim (no_steps b.run.left) as (λ (c : Bool). Leads key_cmp (changes_of (cond c [] s.changes)) h.rows (cond c (later h) (with_stepped h key s)).rows) [
      | true ↦ Leads-nil key_cmp h.rows
      | false ↦ (stepped_does (setting_in app h) h.rows b.run sorted).on.leads
    ]

answer_leads : (app : Programs) (h : Held) (op : Op) (o : Outcome Applied) → IsSorted key_cmp h.rows →
    applied app.collections h.rows op (room_in h) ≡ o → Leads key_cmp (changes_of (answer_changes o)) h.rows (with_answer h o).rows
answer_leads app h op (Ok a) sorted is = (applied_does app.collections h.rows op (room_in h) a sorted is).leads
answer_leads app h op (Err e) sorted is = Leads-nil key_cmp h.rows

operation_leads : (app : Programs) (h : Held) (o : Option Op) → IsSorted key_cmp h.rows →
    Leads key_cmp (changes_of (operation_changes app h o)) h.rows (with_operation app h o).rows
operation_leads app h None sorted = Leads-nil key_cmp h.rows
operation_leads app h (Some op) sorted = answer_leads app h op (applied app.collections h.rows op (room_in h)) sorted refl

pub carried_leads : (app : Programs) (h : Held) (e : Entry) → IsSorted key_cmp h.rows →
    Leads key_cmp (changes_of (changes_by app h e)) h.rows (carried app h e).rows
carried_leads app h (entry.Begin session k method params seed) sorted =
    begin_leads app h (session, k) method params (view seed) (at run_cmp h.runs (session, k))
carried_leads app h (entry.Step session k) sorted = step_leads app h (session, k) (at run_cmp h.runs (session, k)) sorted
carried_leads app h (entry.Admin op) sorted = operation_leads app h (operation_in op) sorted

-- the documents stand by rising key
sorted_led : (a b : Rows) (cs : List Change) → IsSorted key_cmp a → Leads key_cmp (changes_of cs) a b → IsSorted key_cmp b
sorted_led a b cs sorted leads = subst (IsSorted key_cmp) leads.ends (sorted-changed key_order a (changes_of cs) sorted)

pub sorted_carried : (app : Programs) (h : Held) (e : Entry) → IsSorted key_cmp h.rows → IsSorted key_cmp (carried app h e).rows
sorted_carried app h e sorted = sorted_led h.rows (carried app h e).rows (changes_by app h e) sorted (carried_leads app h e sorted)

pub sorted_from : (app : Programs) (h : Held) (es : List Entry) → IsSorted key_cmp h.rows → IsSorted key_cmp (held_from app h es).rows
sorted_from app h [] sorted = sorted
sorted_from app h (e ∷ es) sorted = sorted_from app (carried app h e) es (sorted_carried app h e sorted)

pub sorted_held : (app : Programs) (history : List Entry) → IsSorted key_cmp (held app history).rows
sorted_held app history = sorted_from app nothing history (sorted-nil key_cmp)

pub from_leads : (app : Programs) (h : Held) (es : List Entry) → IsSorted key_cmp h.rows →
    Leads key_cmp (changes_of (changes_from app h es)) h.rows (held_from app h es).rows
from_leads app h [] sorted = Leads-nil key_cmp h.rows
from_leads app h (e ∷ es) sorted =
    let next = carried app h e in
    let last = (held_from app next es).rows in
    subst (λ cs. Leads key_cmp cs h.rows last) (sym (map-append change_of (changes_by app h e) (changes_from app next es)))
    (Leads-append key_cmp (changes_of (changes_by app h e)) (changes_of (changes_from app next es)) h.rows next.rows last
    (carried_leads app h e sorted) (from_leads app next es (sorted_carried app h e sorted)))

-- the changes of some entries lead from the documents before them to those after them
pub between_leads : (app : Programs) (history : List Entry) (place count : ℕ) →
    Leads key_cmp (changes_of (changes_between app history place count)) (held_at app history place).rows (held_at app history (place + count)).rows
between_leads app history place count =
    let some = take count (drop place history) in
    subst (λ (x : Held). Leads key_cmp (changes_of (changes_between app history place count)) (held_at app history place).rows x.rows)
    (sym (ap (held app) (take_more place count history) ∙ held_from-append app nothing (take place history) some))
    (from_leads app (held_at app history place) some (sorted_held app (take place history)))

-- ---- legal histories

pub IsLegalFrom-append : (app : Programs) (h : Held) (es fs : List Entry) → IsLegalFrom app h es → IsLegalFrom app (held_from app h es) fs →
    IsLegalFrom app h (es ++ fs)
IsLegalFrom-append app h [] fs l m = m
IsLegalFrom-append app h (e ∷ es) fs l m = (l.0, IsLegalFrom-append app (carried app h e) es fs l.1 m)

-- an entry that can follow makes a longer legal history
pub IsLegal-append : (app : Programs) (history : List Entry) (e : Entry) → IsLegal app history → IsTrue (can_follow app (held app history) e) →
    IsLegal app (history ++ e ∷ [])
IsLegal-append app history e l can = IsLegalFrom-append app nothing history (e ∷ []) l (can, tt)

legal_first : (app : Programs) (h : Held) (es fs : List Entry) → IsLegalFrom app h (es ++ fs) → IsLegalFrom app h es
legal_first app h [] fs l = tt
legal_first app h (e ∷ es) fs l = (l.0, legal_first app (carried app h e) es fs l.1)

-- so is what a legal history begins with
pub IsLegal-first : (app : Programs) (history more : List Entry) → IsLegal app (history ++ more) → IsLegal app history
IsLegal-first app history more l = legal_first app nothing history more l
