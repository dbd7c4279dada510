-- Laws: A run ended where it says: at its end's place of the history it had ended already, and so.
use Rattle.std.specs.Prelude.{◌≡◌, ℕ, zero, suc, ◌≤◌, List, [], ◌∷◌, ◌++◌, length, take, drop, Bool, true, false, cond, Option, None, Some, option_map, refl}
use Rattle.std.specs.Ordering.{eq_by_cmp}
use Rattle.std.proofs.Common.{ap, sym, subst, ◌∙◌, arith, inl, inr, append-nil}
use Rattle.std.proofs.lemmas.List.{append_assoc, length-append, take-append-drop}
use Rattle.std.proofs.Math.Seq.{take-length}
use Rattle.map_model.specs.Maps.{at, set, IsSorted}
use Rattle.map_model.specs.MapLaws.{at-set}
use Rattle.value_model.specs.Val.{Val}
use Rattle.ejson_value.specs.View.{view}
use Rattle.program_steps.specs.declared.outcome.Status.{Status}
use Rattle.program_steps.specs.Runs.{Outcome, End}
use Rattle.world_model.specs.program_model.Run.{begun}
use Rattle.world_model.specs.program_model.Steps.{stepped}
use Rattle.world_model.specs.history_model.declared.entry.Entry.{Entry}
use Rattle.world_model.specs.history_model.declared.entry.Entry.TheVariants as entry
use Rattle.world_model.specs.history_model.Operations.{operation_in}
use Rattle.world_model.specs.history_model.History.{Programs, RunKey, run_cmp, Begun, Runs, Held, later, setting_in, steps_of, with_begin}
use Rattle.world_model.specs.history_model.History.{with_stepped, no_steps, with_step, carried, held, held_at, status_of, status_in, status_at}
use Rattle.world_model.specs.history_model.HistoryLaws.{run_order, held-append, held_at-longer, held_entries}
use Rattle.world_model.specs.history_model.RunsLaws.{operation_runs, held_is}
use Rattle.world_invariant_laws.specs.Places.{IsNoted, Stood}

-- ---- what an entry leaves of a run

set_noted : (runs : Runs) (key : RunKey) (b : Begun) (q : RunKey) → IsSorted run_cmp runs →
    IsNoted b.at (at run_cmp runs q) (at run_cmp (set run_cmp runs key (Some b)) q)
set_noted runs key b q sorted =
    subst (λ (o : Option Begun). IsNoted b.at (at run_cmp runs q) o) (sym (at-set run_order runs key (Some b) q sorted))
    (elim (eq_by_cmp run_cmp q key)
    as (λ c. IsNoted b.at (at run_cmp runs q) (cond c (Some b) (at run_cmp runs q))) [ true ↦ inr (b, refl, refl) | false ↦ inl refl ])

begin_noted : (app : Programs) (h : Held) (key : RunKey) (method : List ℕ) (params : List Val) (seed : Val) (q : RunKey) (o : Option Begun) →
    IsSorted run_cmp h.runs →
    IsNoted (suc h.entries) (at run_cmp h.runs q) (at run_cmp (with_begin app h key method params seed o).runs q)
begin_noted app h key method params seed q None sorted =
    set_noted h.runs key (record { run = begun params seed (steps_of (app.method method)); at = suc h.entries }) q sorted
begin_noted app h key method params seed q (Some b) sorted = inl refl

step_noted : (app : Programs) (h : Held) (key : RunKey) (q : RunKey) (o : Option Begun) → IsSorted run_cmp h.runs →
    IsNoted (suc h.entries) (at run_cmp h.runs q) (at run_cmp (with_step app h key o).runs q)
step_noted app h key q None sorted = inl refl
step_noted app h key q (Some b) sorted =
    let s = stepped (setting_in app h) h.rows b.run in
    elim (no_steps b.run.left) as (λ (c : Bool). IsNoted (suc h.entries) (at run_cmp h.runs q) (at run_cmp (cond c (later h) (with_stepped h key s)).runs q)) [
      | true ↦ inl refl
      | false ↦ set_noted h.runs key (record { run = s.run; at = suc h.entries }) q sorted
    ]

carried_noted : (app : Programs) (h : Held) (e : Entry) (q : RunKey) → IsSorted run_cmp h.runs →
    IsNoted (suc h.entries) (at run_cmp h.runs q) (at run_cmp (carried app h e).runs q)
carried_noted app h (entry.Begin session k method params seed) q sorted =
    begin_noted app h (session, k) method params (view seed) q (at run_cmp h.runs (session, k)) sorted
carried_noted app h (entry.Step session k) q sorted = step_noted app h (session, k) q (at run_cmp h.runs (session, k)) sorted
carried_noted app h (entry.Admin op) q sorted = inl (ap (λ (runs : Runs). at run_cmp runs q) (operation_runs app h (operation_in op)))

-- ---- a run is as it was at its last entry

one_length : (history : List Entry) (e : Entry) → length (history ++ e ∷ []) ≡ suc (length history)
one_length history e = omega (arith, length-append history (e ∷ []))

take_whole : (n : ℕ) (xs : List Entry) → n ≡ length xs → take n xs ≡ xs
take_whole n xs e = ap (λ m. take m xs) e ∙ take-length xs

stood_more : (app : Programs) (history : List Entry) (e : Entry) → Stood app history → Stood app (history ++ e ∷ [])
stood_more app history e s q b is = by (carried_noted app (held app history) e q (held_is app history).sorted)
  where
    now : at run_cmp (carried app (held app history) e).runs q ≡ Some b
    now = ap (λ (h : Held). at run_cmp h.runs q) (sym (held-append app history e)) ∙ is

    some_is : {x y : Begun} → Some x ≡ Some y → x ≡ y
    some_is e = cc e

    by : IsNoted (suc (held app history).entries) (at run_cmp (held app history).runs q) (at run_cmp (carried app (held app history) e).runs q) →
        (b.at ≤ length (history ++ e ∷ [])) × (at run_cmp (held_at app (history ++ e ∷ []) b.at).runs q ≡ Some b)
    by (inl same) =
        let old = s q b (sym same ∙ now) in
        (omega (arith, old.0, one_length history e), ap (λ (h : Held). at run_cmp h.runs q) (held_at-longer app history (e ∷ []) b.at old.0) ∙ old.1)
    by (inr new) =
        let same : new.0 ≡ b = some_is (sym new.1 ∙ now) in
        let here : b.at ≡ length (history ++ e ∷ []) = omega (arith, ap (λ (x : Begun). x.at) same, new.2, held_entries app history, one_length history e) in
        (omega (arith, here), ap (λ xs. at run_cmp (held app xs).runs q) (take_whole b.at (history ++ e ∷ []) here) ∙ is)

stood_from : (app : Programs) (before es : List Entry) → Stood app before → Stood app (before ++ es)
stood_from app before [] s = subst (Stood app) (sym (append-nil before)) s
stood_from app before (e ∷ es) s = subst (Stood app) (append_assoc before (e ∷ []) es) (stood_from app (before ++ e ∷ []) es (stood_more app before e s))

pub stood : (app : Programs) (history : List Entry) → Stood app history
stood app history = stood_from app [] history (λ q b e. cc e)

-- ---- ends

end_place : (b : Begun) (status : Status) (end : End) → status_of b ≡ status → status.ended ≡ Some end → end.at ≡ b.at
end_place b status end is ended = by b.run.outcome (ap (λ (s : Status). s.ended) is ∙ ended)
  where
    by : (o : Option Outcome) → option_map (λ o. let e : End = record { outcome = o; at = b.at } in e) o ≡ Some end → end.at ≡ b.at
    by None e = cc e
    by (Some o) e = let same : record { outcome = o; at = b.at } ≡ end = cc e in sym (ap (λ (x : End). x.at) same)

-- at an earlier place of an earlier place
take_less : (n m : ℕ) (xs : List Entry) → n ≤ length (take m xs) → take n (take m xs) ≡ take n xs
take_less n m xs le = sym (ap (take n) (sym (take-append-drop m xs)) ∙ within n (take m xs) (drop m xs) le)
  where
    within : (n : ℕ) (xs ys : List Entry) → n ≤ length xs → take n (xs ++ ys) ≡ take n xs
    within zero xs ys h = refl
    within (suc n) [] ys h = absurd (omega (arith, h))
    within (suc n) (x ∷ xs) ys h = ap (λ zs. x ∷ zs) (within n xs ys (omega (arith, h)))

-- a run that has ended at some place had done so at its end's place
pub ended_there : (app : Programs) (history : List Entry) (place session k : ℕ) (status : Status) (end : End) →
    status_at app history place session k ≡ Some status → status.ended ≡ Some end →
    (end.at ≤ length history) × (status_at app history end.at session k ≡ Some status)
ended_there app history place session k status end is ended = by (at run_cmp (held_at app history place).runs (session, k)) refl is
  where
    by : (o : Option Begun) → at run_cmp (held_at app history place).runs (session, k) ≡ o → option_map status_of o ≡ Some status →
        (end.at ≤ length history) × (status_at app history end.at session k ≡ Some status)
    by None e h = cc h
    by (Some b) e h =
        let own : status_of b ≡ status = cc h in
        let there = stood app (take place history) (session, k) b e in
        let where_ : end.at ≡ b.at = end_place b status end own ended in
        let short : length (take place history) ≤ length history =
        omega (arith, ap length (take-append-drop place history), length-append (take place history) (drop place history)) in (
          omega (arith, where_, there.0, short),
          ap (λ n. status_at app history n session k) where_
              ∙ (ap (λ xs. status_in (held app xs) session k) (sym (take_less b.at place history there.0)) ∙ (ap (option_map status_of) there.1 ∙ h)),
        )
