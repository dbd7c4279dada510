-- Laws: Each run of a session that goes on is of a call that runs.
use Rattle.std.specs.Prelude.{◌≡◌, ℕ, zero, suc, ◌+◌, ◌<◌, ◌≤◌, ◌==◌, nat_le, List, [], ◌∷◌, ◌++◌, length, take, drop, filter, Bool, true, false}
use Rattle.std.specs.Prelude.{cond, not, ◌||◌, Option, Some, None, is_some, option_map, option_and_then, IfSome, refl}
use Rattle.std.specs.List.{list_any}
use Rattle.std.proofs.Common.{ap, sym, subst, ◌∙◌, arith}
use Rattle.std.proofs.lemmas.List.{take-append-drop}
use Rattle.std.proofs.lemmas.List.Folds.{list_any-append}
use Rattle.std.proofs.lemmas.Bool.{true≢false, eqb-true, eq-eqb, leb-true, leb-false}
use Rattle.map_model.specs.Maps.{at}
use Rattle.map_model.specs.MapLaws.{key_is}
use Rattle.ejson_value.specs.View.{view}
use Rattle.program_steps.specs.declared.step.ProgramStep.{ProgramStep}
use Rattle.program_steps.specs.declared.outcome.Status.{Status}
use Rattle.program_steps.specs.Runs.{Outcome, End}
use Rattle.world_invariant_laws.specs.program_model.Kept.{is_over}
use Rattle.app_model.specs.App.{App}
use Rattle.world_invariant_laws.specs.history_model.declared.entry.Entry.{Entry}
use Rattle.world_invariant_laws.specs.history_model.declared.entry.Entry.TheVariants as entry
use Rattle.world_invariant_laws.specs.history_model.History.{RunKey, run_cmp, Begun, held, held_at, status_of, status_at, begins, AllAbove, Rise}
use Rattle.world_invariant_laws.specs.history_model.HistoryLaws.{run_order}
use Rattle.world_invariant_laws.specs.history_model.Bounds.{IsBegun, StaysAs}
use Rattle.world_invariant_laws.specs.history_model.RunsLaws.{held_is, held_stays}
use Rattle.world_invariant_laws.specs.history_model.BegunLaws.{run_where_begun}
use Rattle.world_invariant_laws.specs.history_model.LimitLaws.{left_of}
use Rattle.world_invariant_laws.specs.session_model.Items.{Item}
use Rattle.world_invariant_laws.specs.session_model.Methods.{Phase, running, refused, finished, told, Method, Blocking, phase_at}
use Rattle.world_invariant_laws.specs.session_model.Counting.{is_running}
use Rattle.world_invariant_laws.specs.session_model.State.{state_of}
use Rattle.world_invariant_laws.specs.session_model.Moments.{Moment, run_of, end_at}
use Rattle.world_invariant_laws.specs.world_model.Store.{programs, held_in, moments}
use Rattle.world_invariant_laws.specs.world_model.StoreLaws.{moments_past}
use Rattle.world_invariant_laws.specs.world_model.Conn.{Conn, state_in}
use Rattle.world_invariant_laws.specs.world_model.Settle.{running_from}
use Rattle.world_invariant_laws.specs.session_model.LooksBack.{is_refused_in}
use Rattle.world_invariant_laws.specs.world_model.Headline.{calls_in, standing, begun_by, begun_in}
use Rattle.world_invariant_laws.specs.Moments.{run_there}
use Rattle.world_invariant_laws.specs.Begun.{runs_of, unrun, IsBegun as AreBegun, next_unrun}
use Rattle.world_invariant_laws.specs.Session.{IsServed}
use Rattle.world_rounds_laws.specs.Steps.{left_at, Covers}
use Rattle.world_rounds_laws.specs.Phases.{IsOver, Says}
use Rattle.world_rounds_laws.specs.PhasesLaws.{phases_say}
use Rattle.world_rounds_laws.specs.Covering.{is_among}

-- ---- the numbers of the calls that run

above : (i k : ℕ) (ms : List Method) → i < k → AllAbove i (running_from k ms)
above i k [] less = tt
above i k (m ∷ ms) less =
    elim (is_running m.phase) as (λ b. AllAbove i (cond b (k ∷ running_from (suc k) ms) (running_from (suc k) ms))) [
      | true ↦ (less, above i (suc k) ms (omega (arith, less)))
      | false ↦ above i (suc k) ms (omega (arith, less))
    ]

-- they rise
pub running_rises : (k : ℕ) (ms : List Method) → Rise (running_from k ms)
running_rises k [] = tt
running_rises k (m ∷ ms) =
    elim (is_running m.phase) as (λ b. Rise (cond b (k ∷ running_from (suc k) ms) (running_from (suc k) ms))) [
      | true ↦ (above k (suc k) ms (omega arith), running_rises (suc k) ms)
      | false ↦ running_rises (suc k) ms
    ]

or_right : (a b : Bool) → b ≡ true → (a || b) ≡ true
or_right true b e = refl
or_right false b e = e

-- a call that runs is among them
runs_among : (j k : ℕ) (ms : List Method) → phase_at k ms ≡ Some running → list_any (λ i. (j + k) == i) (running_from j ms) ≡ true
runs_among j k [] e = cc e
runs_among j zero (m ∷ ms) e =
    let same : m.phase ≡ running = cc e in
    ap (λ (b : Bool). list_any (λ i. (j + 0) == i) (cond b (j ∷ running_from (suc j) ms) (running_from (suc j) ms))) (ap is_running same)
    ∙ (let own : j + 0 ≡ j = omega arith in ap (λ (b : Bool). b || list_any (λ i. (j + 0) == i) (running_from (suc j) ms)) (eq-eqb (j + 0) j own))
runs_among j (suc k) (m ∷ ms) e =
    let number : suc j + k ≡ j + suc k = omega arith in
    let rest : list_any (λ i. (j + suc k) == i) (running_from (suc j) ms) ≡ true =
    subst (λ n. list_any (λ i. n == i) (running_from (suc j) ms) ≡ true) number (runs_among (suc j) k ms e) in
    elim (is_running m.phase) as (λ b. list_any (λ i. (j + suc k) == i) (cond b (j ∷ running_from (suc j) ms) (running_from (suc j) ms)) ≡ true) [
      | true ↦ or_right ((j + suc k) == j) (list_any (λ i. (j + suc k) == i) (running_from (suc j) ms)) rest
      | false ↦ rest
    ]

-- ---- a call that has no phase

none_past : (k : ℕ) (ms : List Method) → phase_at k ms ≡ None → length ms ≤ k
none_past k [] e = omega arith
none_past zero (m ∷ ms) e = cc e
none_past (suc k) (m ∷ ms) e = omega (arith, none_past k ms e)

unrun_left : (o : Option Begun) → is_some (option_map status_of o) ≡ false → left_of o ≡ 0
unrun_left None e = refl
unrun_left (Some b) e = cc e

-- ---- a call that was refused

-- a call that the history begins is among those that it begins
begun_among : (n k : ℕ) (h : List Entry) → list_any (begins (n, k)) h ≡ true → is_among k (begun_in n h) ≡ true
begun_among n k [] e = cc e
begun_among n k (x ∷ h) e = list_any-append (λ (b : Blocking). k == b.k) (begun_by n x) (begun_in n h) ∙ by (begun_among n k h) x (begins (n, k) x) refl e
  where
    by : (list_any (begins (n, k)) h ≡ true → is_among k (begun_in n h) ≡ true) → (x : Entry) (c : Bool) → begins (n, k) x ≡ c →
        (c || list_any (begins (n, k)) h) ≡ true → (is_among k (begun_by n x) || is_among k (begun_in n h)) ≡ true
    by rest (entry.Begin m j method params seed) true is t =
        let same : (n, k) ≡ (m, j) = key_is run_order (n, k) (m, j) is in
        let its : is_among k (begun_by n (entry.Begin m j method params seed)) ≡ true =
        ap (λ (c : Bool). is_among k (cond c (record { k = j; method = method; params = params; seed = view seed } ∷ []) []))
        (eq-eqb n m (ap (λ (q : RunKey). q.0) same))
        ∙ ap (λ (c : Bool). c || false) (eq-eqb k j (ap (λ (q : RunKey). q.1) same)) in
        ap (λ (c : Bool). c || is_among k (begun_in n h)) its
    by rest (entry.Step m j) true is t = cc is
    by rest (entry.Admin op) true is t = cc is
    by rest x false is t = or_right (is_among k (begun_by n x)) (is_among k (begun_in n h)) (rest t)

-- none of the calls that stand was refused
standing_apart : (items : List Item) (k : ℕ) (bs : List Blocking) → is_refused_in items k ≡ true →
    is_among k (filter (λ (b : Blocking). not (is_refused_in items b.k)) bs) ≡ false
standing_apart items k [] r = refl
standing_apart items k (b ∷ bs) r =
    let rest = standing_apart items k bs r in
    let kept = filter (λ (c : Blocking). not (is_refused_in items c.k)) bs in
    elim (is_refused_in items b.k) as (λ c. is_refused_in items b.k ≡ c → is_among k (cond (not c) (b ∷ kept) kept) ≡ false) [
      | true ↦ λ is. rest
      | false ↦ λ is. ap (λ c. c || is_among k kept) (apart (k == b.k) refl is) ∙ rest
    ] refl
  where
    apart : (c : Bool) → k == b.k ≡ c → is_refused_in items b.k ≡ false → c ≡ false
    apart false e is = refl
    apart true e is = absurd (true≢false (sym (ap (is_refused_in items) (sym (eqb-true k b.k e)) ∙ r) ∙ is))

among_first : (k : ℕ) (bs cs : List Blocking) → is_among k bs ≡ true → is_among k (bs ++ cs) ≡ true
among_first k bs cs e = list_any-append (λ (b : Blocking). k == b.k) bs cs ∙ ap (λ (c : Bool). c || is_among k cs) e

refused_unrun : (app : App) (n k : ℕ) (h : List Entry) (items : List Item) → AreBegun app n h items → is_refused_in items k ≡ true →
    is_some (runs_of app n h k) ≡ false
refused_unrun app n k h items p r = by (list_any (begins (n, k)) h) refl
  where
    by : (c : Bool) → list_any (begins (n, k)) h ≡ c → is_some (runs_of app n h k) ≡ false
    by false e = run_where_begun (programs app) h n k ∙ e
    by true e =
        let stands : is_among k (standing items) ≡ true = ap (is_among k) (sym p.begun)
        ∙ among_first k (begun_in n h) (unrun (runs_of app n h) (state_of items).blocking) (begun_among n k h e) in
        absurd (true≢false (sym stands ∙ standing_apart items k (calls_in items) r))

-- ---- a call that has finished

outcome_over : (o : Option Outcome) (at : ℕ) (end : End) →
    option_map (λ (x : Outcome). let e : End = record { outcome = x; at = at } in e) o ≡ Some end → is_some o ≡ true
outcome_over None at end e = cc e
outcome_over (Some o) at end e = refl

over_left : (left : List ProgramStep) → is_over left ≡ true → length left ≡ 0
over_left [] e = refl
over_left (step ∷ steps) e = cc e

stays_over : (b : Begun) (o : Option Begun) → is_over b.run.left ≡ true → StaysAs (Some b) o → left_of o ≡ 0
stays_over b None over s = absurd s
stays_over b (Some c) over s = ap (λ (x : Begun). length x.run.left) (s.1 over) ∙ over_left b.run.left over

module _ (app : App) (n k : ℕ) (h : List Entry) where
  ended_left : (place : ℕ) (end : End) → option_and_then (λ (s : Status). s.ended) (status_at (programs app) h place n k) ≡ Some end →
      left_at (held_in app h).runs n k ≡ 0
  ended_left place end e = by (at run_cmp (held_at (programs app) h place).runs (n, k)) refl e
    where
      stays : StaysAs (at run_cmp (held (programs app) (take place h)).runs (n, k)) (at run_cmp (held_in app h).runs (n, k))
      stays =
          subst (λ (es : List Entry). StaysAs (at run_cmp (held (programs app) (take place h)).runs (n, k))
          (at run_cmp (held (programs app) es).runs (n, k))) (take-append-drop place h)
          (held_stays (programs app) (take place h) (drop place h) (n, k))

      by : (o : Option Begun) → at run_cmp (held_at (programs app) h place).runs (n, k) ≡ o →
          option_and_then (λ (s : Status). s.ended) (option_map status_of o) ≡ Some end → left_at (held_in app h).runs n k ≡ 0
      by None is f = cc f
      by (Some b) is f =
          let begun : IsBegun (held_at (programs app) h place).entries b = subst (λ (o : Option Begun).
          IfSome o (IsBegun (held_at (programs app) h place).entries)) is ((held_is (programs app) (take place h)).begun (n, k)) in
          stays_over b (at run_cmp (held_in app h).runs (n, k)) (sym begun.0 ∙ outcome_over b.run.outcome b.at end f)
          (subst (λ (o : Option Begun). StaysAs o (at run_cmp (held_in app h).runs (n, k))) is stays)

  over_left_none : IsOver (moments app n h) k → left_at (held_in app h).runs n k ≡ 0
  over_left_none o = by (nat_le o.0 (length h)) refl
    where
      by : (b : Bool) → nat_le o.0 (length h) ≡ b → left_at (held_in app h).runs n k ≡ 0
      by true e = ended_left o.0 o.1.end (ap (option_and_then (λ (s : Status). s.ended)) (sym (run_there app n h o.0 k (leb-true o.0 (length h) e))) ∙ o.1.is)
      by false e =
          let none : end_at (moments app n h) o.0 k ≡ None = ap (λ (m : Option Moment). option_and_then (λ (s : Status). s.ended) (run_of k m))
          (moments_past app n h o.0 (leb-false o.0 (length h) e)) in
          let differ : None ≡ Some o.1.end = sym none ∙ o.1.is in
          cc differ

-- ---- all of them

-- each run that has steps left is of a call that runs
pub running_covers : (app : App) (h : List Entry) (c : Conn) → IsServed app h c → Covers c.number (running_from 0 (state_in c).methods) (held_in app h).runs
running_covers app h c p k some = by (phase_at k (state_in c).methods) refl
  where
    none : is_some (runs_of app c.number h k) ≡ false → left_at (held_in app h).runs c.number k ≡ 0
    none e = unrun_left (at run_cmp (held_in app h).runs (c.number, k)) e

    says : (p' : Phase) → phase_at k (state_in c).methods ≡ Some p' → Says (moments app c.number h) c.items k p'
    says q e = phases_say app c.number (moments app c.number h) c.items p.session.fits k q e

    by : (o : Option Phase) → phase_at k (state_in c).methods ≡ o → list_any (λ i. k == i) (running_from 0 (state_in c).methods) ≡ true
    by None e = absurd (some (none (next_unrun app c.number h c.items k (none_past k (state_in c).methods e) p.begun)))
    by (Some running) e = let number : 0 + k ≡ k = omega arith in subst
        (λ n. list_any (λ i. n == i) (running_from 0 (state_in c).methods) ≡ true) number (runs_among 0 k (state_in c).methods e)
    by (Some refused) e = absurd (some (none (refused_unrun app c.number k h c.items p.begun (says refused e))))
    by (Some (finished place)) e = absurd (some (over_left_none app c.number k h (says (finished place) e)))
    by (Some (told place)) e = absurd (some (over_left_none app c.number k h (says (told place) e)))
