-- Laws of how far runs are.
use Rattle.std.specs.Prelude.{◌≡◌, ℕ, ◌≤◌, List, ◌++◌, length, true, Option, None, Some, is_some, option_map, IfSome, refl}
use Rattle.std.proofs.Common.{ap, sym, subst, ◌∙◌}
use Rattle.map_model.specs.Maps.{at}
use Rattle.program_steps.specs.declared.outcome.Status.{Status}
use Rattle.program_steps.specs.Runs.{Outcome, End}
use Rattle.program_model.specs.Kept.{is_over}
use Rattle.history_model.specs.declared.entry.Entry.{Entry}
use Rattle.history_model.specs.History.{Programs, run_cmp, Begun, end_of, status_of, held, status_in}
use Rattle.history_model.specs.Bounds.{IsBegun, StaysAs}
use Rattle.history_model.specs.HistoryLaws.{held_entries}
use Rattle.history_model.specs.RunsLaws.{held_is, held_stays}

ended_is : (b : Begun) → is_some (end_of b) ≡ is_some b.run.outcome
ended_is b = elim b.run.outcome as
    (λ (o : Option Outcome). is_some (option_map (λ o. let e : End = record { outcome = o; at = b.at } in e) o) ≡ is_some o) [ None ↦ refl | Some o ↦ refl ]

same_status : (n : ℕ) (a b : Option Begun) (status : Status) → IfSome a (IsBegun n) → StaysAs a b → option_map status_of a ≡ Some status →
    is_some status.ended ≡ true → option_map status_of b ≡ Some status
same_status n None b status i stays is ended = absurd (cc is)
same_status n (Some a) None status i stays is ended = absurd stays
same_status n (Some a) (Some b) status i stays is ended =
    let own : status_of a ≡ status = cc is in
    let over : is_over a.run.left ≡ true = sym i.0 ∙ (sym (ended_is a) ∙ (ap (λ (s : Status). is_some s.ended) own ∙ ended)) in
    let same : b ≡ a = stays.1 over in
    ap (λ (x : Begun). Some (status_of x)) same ∙ is

-- what has ended stays as it is, however the history goes on
pub ended_stays : (app : Programs) (history more : List Entry) (session k : ℕ) (status : Status) →
    status_in (held app history) session k ≡ Some status → is_some status.ended ≡ true → status_in (held app (history ++ more)) session k ≡ Some status
ended_stays app history more session k status is ended =
    same_status (held app history).entries (at run_cmp (held app history).runs (session, k))
    (at run_cmp (held app (history ++ more)).runs (session, k)) status ((held_is app history).begun (session, k))
    (held_stays app history more (session, k)) is ended

unblocked_on : (a b : Option Begun) (status : Status) → StaysAs a b → option_map status_of a ≡ Some status → status.unblocked ≡ true →
    (later : Status) × (option_map status_of b ≡ Some later) × (later.unblocked ≡ true)
unblocked_on None b status stays is free = absurd (cc is)
unblocked_on (Some a) None status stays is free = absurd stays
unblocked_on (Some a) (Some b) status stays is free =
    let own : status_of a ≡ status = cc is in
    (status_of b, refl, stays.0 (ap (λ (s : Status). s.unblocked) own ∙ free))

-- so does that the next message was let be handled
pub unblocked_stays : (app : Programs) (history more : List Entry) (session k : ℕ) (status : Status) →
    status_in (held app history) session k ≡ Some status → status.unblocked ≡ true
    → (later : Status) × (status_in (held app (history ++ more)) session k ≡ Some later) × (later.unblocked ≡ true)
unblocked_stays app history more session k status is free =
    unblocked_on (at run_cmp (held app history).runs (session, k)) (at run_cmp (held app (history ++ more)).runs (session, k)) status
    (held_stays app history more (session, k)) is free

status_within : (n : ℕ) (o : Option Begun) (status : Status) → IfSome o (IsBegun n) → option_map status_of o ≡ Some status →
    IfSome status.ended (λ (e : End). e.at ≤ n)
status_within n None status i is = absurd (cc is)
status_within n (Some b) status i is =
    let own : status_of b ≡ status = cc is in
    subst (λ (s : Status). IfSome s.ended (λ (e : End). e.at ≤ n)) own (by b.run.outcome)
  where
    by : (o : Option Outcome) → IfSome (option_map (λ o. let x : End = record { outcome = o; at = b.at } in x) o) (λ (e : End). e.at ≤ n)
    by None = tt
    by (Some o) = i.1

-- a run ended within its history
pub ended_within : (app : Programs) (history : List Entry) (session k : ℕ) (status : Status) → status_in (held app history) session k ≡ Some status →
    IfSome status.ended (λ (e : End). e.at ≤ length history)
ended_within app history session k status is =
    subst (λ n. IfSome status.ended (λ (e : End). e.at ≤ n)) (held_entries app history)
    (status_within (held app history).entries (at run_cmp (held app history).runs (session, k)) status ((held_is app history).begun (session, k)) is)
