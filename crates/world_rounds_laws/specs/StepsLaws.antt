-- Laws: The steps of a session's runs: each of its calls makes steps until it can make no more.
use Rattle.std.specs.Prelude.{◌≡◌, ℕ, zero, suc, ◌<◌, ◌==◌, List, [], ◌∷◌, ◌++◌, length, replicate, Bool, true, false, cond, not, ◌||◌, Option, Some}
use Rattle.std.specs.Prelude.{None, IfSome, refl}
use Rattle.std.specs.List.{list_any, AllByRecursion}
use Rattle.std.specs.Map.{keys_of}
use Rattle.std.specs.Ordering.{eq_by_cmp, is_eq, nat_cmp, ordering_then}
use Rattle.std.specs.declared.cmp.Ordering.TheVariants.{Less}
use Rattle.std.proofs.Common.{ap, ap₂, sym, subst, ◌∙◌, arith}
use Rattle.std.proofs.lemmas.Bool.{not-true, eqb-true, eq-eqb, true≢false}
use Rattle.std.proofs.lemmas.Cmp.{ranked, by_ranked, tied_itself, nat_cmp_total}
use Rattle.std.proofs.lemmas.Map.Keys.{sorted_head, sorted_tail}
use Rattle.map_model.specs.Maps.{at, set, IsSorted}
use Rattle.map_model.specs.MapLaws.{key_is, eq_by_cmp-self, at-set, at-tail}
use Rattle.app_model.specs.App.{App}
use Rattle.program_steps.specs.declared.step.ProgramStep.{ProgramStep}
use Rattle.world_model.specs.program_model.Kept.{is_over}
use Rattle.world_model.specs.program_model.RunLaws.{stepped_less}
use Rattle.world_model.specs.program_model.Steps.{stepped}
use Rattle.world_model.specs.history_model.declared.entry.Entry.TheVariants as entry
use Rattle.world_model.specs.history_model.History.{Programs, RunKey, run_cmp, Begun, Runs, Held, later, setting_in, no_steps, goes_on, with_step}
use Rattle.world_model.specs.history_model.History.{with_stepped, AllAbove, Rise}
use Rattle.world_model.specs.history_model.Bounds.{IsHeld, IsBegun}
use Rattle.world_model.specs.history_model.LimitLaws.{left_of}
use Rattle.world_model.specs.history_model.HistoryLaws.{run_order, held-append}
use Rattle.world_model.specs.history_model.RunsLaws as held
use Rattle.rounds_model.specs.Rounds.{made}
use Rattle.world_model.specs.declared.events.Act.{Act}
use Rattle.world_model.specs.declared.events.Act.TheVariants as act
use Rattle.world_model.specs.declared.events.Answer.TheVariants as answer
use Rattle.world_model.specs.Store.{programs, held_in}
use Rattle.world_model.specs.Acts.{is_done, entries, does}
use Rattle.world_model.specs.Settle.{steps, steps_of}
use Rattle.world_rounds_laws.specs.RepeatsLaws.{made-append}
use Rattle.world_rounds_laws.specs.Visits.{Side, can_on, act_on, phase_on}
use Rattle.world_rounds_laws.specs.Steps.{Covers, all_stepped, left_at, left_in, steps_by, steps_for, steps_made}

-- ---- a step

pub can_step : (app : App) (x : Side) (k : ℕ) → can_on app x (act.Step k) ≡ goes_on (at run_cmp (held_in app x.history).runs (x.conn.number, k))
can_step app x k = elim (goes_on (at run_cmp (held_in app x.history).runs (x.conn.number, k))) as
    (λ b. is_done (cond (not b) answer.Idle answer.Done) ≡ b) [ true ↦ refl | false ↦ refl ]

not_over : (left : List ProgramStep) → no_steps left ≡ false → is_over left ≡ false
not_over [] e = e
not_over (step ∷ more) e = refl

stepped_left : (app : Programs) (h : Held) (key : RunKey) (o : Option Begun) → at run_cmp h.runs key ≡ o → IfSome o (IsBegun h.entries) →
    goes_on o ≡ true → IsHeld h → left_of (at run_cmp (with_step app h key o).runs key) < left_of o
stepped_left app h key None is b goes i = absurd (cc goes)
stepped_left app h key (Some b) is run goes i =
    let going = not-true (no_steps b.run.left) goes in
    let s = stepped (setting_in app h) h.rows b.run in
    let next : Begun = record { run = s.run; at = suc h.entries } in
    let less = stepped_less (setting_in app h) h.rows b.run run.0 (not_over b.run.left going) in
    let there : at run_cmp (set run_cmp h.runs key (Some next)) key ≡ Some next = at-set run_order h.runs key (Some next) key i.sorted
    ∙ ap (λ x. cond x (Some next) (at run_cmp h.runs key)) (eq_by_cmp-self run_order key) in
    subst (λ (c : Bool). left_of (at run_cmp (cond c (later h) (with_stepped h key s)).runs key) < length b.run.left) (sym going)
    (subst (λ (x : Option Begun). left_of x < length b.run.left) (sym there) (omega (arith, less)))

other_left : (app : Programs) (h : Held) (key q : RunKey) (o : Option Begun) → IsHeld h → eq_by_cmp run_cmp q key ≡ false →
    left_of (at run_cmp (with_step app h key o).runs q) ≡ left_of (at run_cmp h.runs q)
other_left app h key q None i apart = refl
other_left app h key q (Some b) i apart =
    let s = stepped (setting_in app h) h.rows b.run in
    let next : Begun = record { run = s.run; at = suc h.entries } in
    elim (no_steps b.run.left) as (λ c. left_of (at run_cmp (cond c (later h) (with_stepped h key s)).runs q) ≡ left_of (at run_cmp h.runs q)) [
      | true ↦ refl
      | false ↦ ap left_of (at-set run_order h.runs key (Some next) q i.sorted ∙ ap (λ c. cond c (Some next) (at run_cmp h.runs q)) apart)
    ]

-- another call of the session, or a call of another one, has another key
other_call : (n j k : ℕ) → (j ≡ k → ⊥) → eq_by_cmp run_cmp (n, j) (n, k) ≡ false
other_call n j k differ = by (eq_by_cmp run_cmp (n, j) (n, k)) refl
  where
    by : (b : Bool) → eq_by_cmp run_cmp (n, j) (n, k) ≡ b → b ≡ false
    by false e = refl
    by true e = absurd (differ (ap (λ (q : RunKey). q.1) (key_is run_order (n, j) (n, k) e)))

other_session : (n m j k : ℕ) → n == m ≡ false → eq_by_cmp run_cmp (n, j) (m, k) ≡ false
other_session n m j k differ = by (eq_by_cmp run_cmp (n, j) (m, k)) refl
  where
    by : (b : Bool) → eq_by_cmp run_cmp (n, j) (m, k) ≡ b → b ≡ false
    by false e = refl
    by true e = absurd (true≢false (sym (eq-eqb n m (ap (λ (q : RunKey). q.0) (key_is run_order (n, j) (m, k) e))) ∙ differ))

-- a step leaves fewer of its own run, and as many of others
pub step_lowers : (app : App) (x : Side) (k : ℕ) → can_on app x (act.Step k) ≡ true → left_in app k (act_on app (act.Step k) x) < left_in app k x
step_lowers app x k may =
    let n = x.conn.number in
    let h = held_in app x.history in
    let i = held.held_is (programs app) x.history in
    let less = stepped_left (programs app) h (n, k) (at run_cmp h.runs (n, k)) refl (i.begun (n, k)) (sym (can_step app x k) ∙ may) i in
    subst (λ (b : Bool). left_in app k
    (cond b (record { history = x.history ++ entries app x.history x.conn (act.Step k); conn = does app x.history x.conn (act.Step k) }) x)
    < left_in app k x) (sym may)
    (subst (λ (y : Held). left_at y.runs n k < left_in app k x) (sym (held-append (programs app) x.history (entry.Step n k))) less)

pub step_leaves : (app : App) (x : Side) (k j : ℕ) → (j ≡ k → ⊥) → left_in app j (act_on app (act.Step k) x) ≡ left_in app j x
step_leaves app x k j differ =
    let n = x.conn.number in
    let h = held_in app x.history in
    elim (can_on app x (act.Step k)) as
    (λ b. left_in app j
    (cond b (record { history = x.history ++ entries app x.history x.conn (act.Step k); conn = does app x.history x.conn (act.Step k) }) x)
    ≡ left_in app j x) [
      | true ↦ ap (λ (y : Held). left_at y.runs n j) (held-append (programs app) x.history (entry.Step n k))
          ∙ other_left (programs app) h (n, k) (n, j) (at run_cmp h.runs (n, k)) (held.held_is (programs app) x.history) (other_call n j k differ)
      | false ↦ refl
    ]

repeats_leave : (app : App) (m : ℕ) (x : Side) (k j : ℕ) → (j ≡ k → ⊥) → left_in app j (made (act_on app) (replicate m (act.Step k)) x) ≡ left_in app j x
repeats_leave app zero x k j differ = refl
repeats_leave app (suc m) x k j differ = repeats_leave app m (act_on app (act.Step k) x) k j differ ∙ step_leaves app x k j differ

-- ---- one call after another

later_same : (app : App) (m : ℕ) (x : Side) (k : ℕ) (ks : List ℕ) → AllAbove k ks →
    steps_for app ks (made (act_on app) (replicate m (act.Step k)) x) ≡ steps_for app ks x
later_same app m x k [] above = refl
later_same app m x k (j ∷ ks) above =
    ap₂ (λ (n : ℕ) (acts : List Act). replicate n (act.Step j) ++ acts) (repeats_leave app m x k j (λ e. omega (arith, e, above.0)))
    (later_same app m x k ks above.1)

all_is : (app : App) (ks : List ℕ) (x : Side) → Rise ks → all_stepped app ks x ≡ made (act_on app) (steps_for app ks x) x
all_is app [] x rise = refl
all_is app (k ∷ ks) x rise =
    let first = replicate (left_in app k x) (act.Step k) in
    all_is app ks (steps_made app k x) rise.1
    ∙ (ap (λ (acts : List Act). made (act_on app) acts (steps_made app k x)) (later_same app (left_in app k x) x k ks rise.0)
    ∙ sym (made-append (act_on app) first (steps_for app ks x) x))

-- ---- the phase lists the same

by_same : (n : ℕ) (ks : List ℕ) (a b : Runs) → ((k : ℕ) → left_at a n k ≡ left_at b n k) → steps_by n ks a ≡ steps_by n ks b
by_same n [] a b same = refl
by_same n (k ∷ ks) a b same = ap₂ (λ (m : ℕ) (acts : List Act). replicate m (act.Step k) ++ acts) (same k) (by_same n ks a b same)

-- the same, of calls above one
above_same : (n j : ℕ) (ks : List ℕ) (a b : Runs) → AllAbove j ks → ((k : ℕ) → (k ≡ j → ⊥) → left_at a n k ≡ left_at b n k) → steps_by n ks a ≡ steps_by n ks b
above_same n j [] a b above same = refl
above_same n j (k ∷ ks) a b above same =
    ap₂ (λ (m : ℕ) (acts : List Act). replicate m (act.Step k) ++ acts) (same k (λ e. omega (arith, e, above.0))) (above_same n j ks a b above.1 same)

none_behind : (key : RunKey) (runs : Runs) → AllByRecursion (λ k. run_cmp key k ≡ Less) (keys_of runs) → at run_cmp runs key ≡ None
none_behind key [] h = refl
none_behind key (r ∷ runs) h = ap (λ o. cond (is_eq o) (Some r.1) (at run_cmp runs key)) h.0 ∙ none_behind key runs h.1

behind_all : (key first : RunKey) (ks : List RunKey) → run_cmp key first ≡ Less → AllByRecursion (λ k. run_cmp first k ≡ Less) ks →
    AllByRecursion (λ k. run_cmp key k ≡ Less) ks
behind_all key first [] e h = tt
behind_all key first (k ∷ ks) e h = (run_order.total.trans key first k e h.0, behind_all key first ks e h.1)

below : (k j : ℕ) → k < j → nat_cmp k j ≡ Less
below k j less = by_ranked (k < j) (k ≡ j) (j < k) (nat_cmp k j) (ranked k j (nat_cmp k j) refl) (λ e p. e) (λ e p. absurd (omega (arith, p, less)))
    (λ e p. absurd (omega (arith, p, less)))

less_call : (n k j : ℕ) → k < j → run_cmp (n, k) (n, j) ≡ Less
less_call n k j less = ap₂ ordering_then (tied_itself nat_cmp_total n) (below k j less)

member_above : (j k : ℕ) (ks : List ℕ) → AllAbove k ks → list_any (λ i. j == i) ks ≡ true → k < j
member_above j k [] above is = cc is
member_above j k (i ∷ ks) above is =
    elim (j == i) as (λ b. j == i ≡ b → (b || list_any (λ i. j == i) ks) ≡ true → k < j) [
      | true ↦ λ e h. omega (arith, eqb-true j i e, above.0)
      | false ↦ λ e h. member_above j k ks above.1 h
    ] refl is

differ_of : (j k : ℕ) → j == k ≡ false → k ≡ j → ⊥
differ_of j k e same = true≢false (sym (eq-eqb j k (sym same)) ∙ e)

module _ (n j : ℕ) (b : Begun) (runs : Runs) (sorted : IsSorted run_cmp (((n, j), b) ∷ runs)) where
  abbrev whole : Runs
  whole = ((n, j), b) ∷ runs

  left_own : left_at whole n j ≡ length b.run.left
  left_own = ap (λ c. left_of (cond c (Some b) (at run_cmp runs (n, j)))) (eq_by_cmp-self run_order (n, j))

  left_other : (k : ℕ) → (k ≡ j → ⊥) → left_at whole n k ≡ left_at runs n k
  left_other k differ = ap (λ c. left_of (cond c (Some b) (at run_cmp runs (n, k)))) (other_call n k j differ)

  left_behind : left_at runs n j ≡ 0
  left_behind = ap left_of (at-tail run_order ((n, j), b) runs (n, j) sorted (eq_by_cmp-self run_order (n, j)))

  left_before : (k : ℕ) → k < j → left_at runs n k ≡ 0
  left_before k less = ap left_of
      (none_behind (n, k) runs (behind_all (n, k) (n, j) (keys_of runs) (less_call n k j less) (sorted_head run_cmp (n, j) (keys_of runs) sorted)))

  -- the first run's steps come first
  first_first : (ks : List ℕ) → Rise ks → list_any (λ i. j == i) ks ≡ true →
      steps_by n ks whole ≡ replicate (length b.run.left) (act.Step j) ++ steps_by n ks runs
  first_first [] rise is = cc is
  first_first (k ∷ ks) rise is =
      elim (j == k) as
      (λ c. j == k ≡ c → (c || list_any (λ i. j == i) ks) ≡ true →
      steps_by n (k ∷ ks) whole ≡ replicate (length b.run.left) (act.Step j) ++ steps_by n (k ∷ ks) runs) [
        | true ↦ λ e h.
            let same : j ≡ k = eqb-true j k e in
            subst (λ i. steps_by n (i ∷ ks) whole ≡ replicate (length b.run.left) (act.Step j) ++ steps_by n (i ∷ ks) runs) same
            (ap₂ (λ (m : ℕ) (acts : List Act). replicate m (act.Step j) ++ acts) left_own
            (above_same n j ks whole runs (subst (λ i. AllAbove i ks) (sym same) rise.0) left_other)
            ∙ ap (λ m. replicate (length b.run.left) (act.Step j) ++ (replicate m (act.Step j) ++ steps_by n ks runs)) (sym left_behind))
        | false ↦ λ e h.
            let none : left_at runs n k ≡ 0 = left_before k (member_above j k ks rise.0 h) in
            ap₂ (λ (m : ℕ) (acts : List Act). replicate m (act.Step k) ++ acts) (left_other k (differ_of j k e) ∙ none) (first_first ks rise.1 h)
            ∙ ap (λ m. replicate (length b.run.left) (act.Step j) ++ (replicate m (act.Step k) ++ steps_by n ks runs)) (sym none)
      ] refl is

  -- a run with no step left isn't there for the phase
  none_first : (ks : List ℕ) → length b.run.left ≡ 0 → steps_by n ks whole ≡ steps_by n ks runs
  none_first ks none = by_same n ks whole runs (λ k. by k (k == j) refl)
    where
      by : (k : ℕ) (c : Bool) → k == j ≡ c → left_at whole n k ≡ left_at runs n k
      by k true e = subst (λ i. left_at whole n i ≡ left_at runs n i) (sym (eqb-true k j e)) (left_own ∙ (none ∙ sym left_behind))
      by k false e = left_other k (λ same. true≢false (sym (eq-eqb k j same) ∙ e))

  one_first : (ks : List ℕ) → Rise ks → Covers n ks whole → (m : ℕ) → length b.run.left ≡ m →
      steps_by n ks whole ≡ replicate m (act.Step j) ++ steps_by n ks runs
  one_first ks rise covers zero is = none_first ks is
  one_first ks rise covers (suc m) is =
      first_first ks rise (covers j (λ e. omega (arith, e, left_own, is)))
      ∙ ap (λ i. replicate i (act.Step j) ++ steps_by n ks runs) is

  rest_covers : (ks : List ℕ) → Covers n ks whole → Covers n ks runs
  rest_covers ks covers k some = by (k == j) refl
    where
      by : (c : Bool) → k == j ≡ c → list_any (λ i. k == i) ks ≡ true
      by true e = absurd (some (ap (left_at runs n) (eqb-true k j e) ∙ left_behind))
      by false e = covers k (λ z. some (sym (left_other k (λ same. true≢false (sym (eq-eqb k j same) ∙ e))) ∙ z))

phase_is : (n : ℕ) (runs : Runs) (ks : List ℕ) → IsSorted run_cmp runs → Rise ks → Covers n ks runs → steps_by n ks runs ≡ steps_of n runs
phase_is n [] ks sorted rise covers = nothing ks
  where
    nothing : (ks : List ℕ) → steps_by n ks [] ≡ []
    nothing [] = refl
    nothing (k ∷ ks) = nothing ks
phase_is n (r ∷ runs) ks sorted rise covers =
    let rest = sorted_tail run_cmp r.0 (keys_of runs) sorted in
    elim (n == r.0.0) as
    (λ c. n == r.0.0 ≡ c → steps_by n ks (r ∷ runs) ≡ cond c (replicate (length r.1.run.left) (act.Step r.0.1) ++ steps_of n runs) (steps_of n runs)) [
      | true ↦ λ e. own (eqb-true n r.0.0 e) (λ more. phase_is n runs ks rest rise more)
      | false ↦ λ e.
          let same : (k : ℕ) → left_at (r ∷ runs) n k ≡ left_at runs n k =
          λ k. ap (λ c. left_of (cond c (Some r.1) (at run_cmp runs (n, k)))) (other_session n r.0.0 k r.0.1 e) in
          by_same n ks (r ∷ runs) runs same ∙ phase_is n runs ks rest rise (λ k some. covers k (λ z. some (sym (same k) ∙ z)))
    ] refl
  where
    own : n ≡ r.0.0 → (Covers n ks runs → steps_by n ks runs ≡ steps_of n runs) →
        steps_by n ks (r ∷ runs) ≡ replicate (length r.1.run.left) (act.Step r.0.1) ++ steps_of n runs
    own e again =
        let first : ((r.0.0, r.0.1), r.1) ∷ runs ≡ ((n, r.0.1), r.1) ∷ runs = ap (λ m. ((m, r.0.1), r.1) ∷ runs) (sym e) in
        let sorted_ : IsSorted run_cmp (((n, r.0.1), r.1) ∷ runs) = subst (λ (x : Runs). IsSorted run_cmp x) first sorted in
        let covers_ : Covers n ks (((n, r.0.1), r.1) ∷ runs) = subst (λ (x : Runs). Covers n ks x) first covers in
        ap (steps_by n ks) first
        ∙ (one_first n r.0.1 r.1 runs sorted_ ks rise covers_ (length r.1.run.left) refl
        ∙ ap (λ (acts : List Act). replicate (length r.1.run.left) (act.Step r.0.1) ++ acts) (again (rest_covers n r.0.1 r.1 runs sorted_ ks covers_)))

-- So it is for calls that rise, each run with steps left being of one of them
pub steps_are : (app : App) (ks : List ℕ) (x : Side) → Rise ks → Covers x.conn.number ks (held_in app x.history).runs →
    all_stepped app ks x ≡ made (act_on app) (phase_on app steps x) x
steps_are app ks x rise covers =
    all_is app ks x rise
    ∙ ap (λ (acts : List Act). made (act_on app) acts x)
    (phase_is x.conn.number (held_in app x.history).runs ks (held.held_is (programs app) x.history).sorted rise covers)
