-- A step keeps what is counted.
use Rattle.std.proofs.Common.{◌≡◌, ℕ, zero, suc, ◌==◌, true≢false, ◌≤◌, List, [], ◌∷◌, ◌++◌, length, true, false, cond, Option, Some, None, refl, ap, sym, subst, ◌∙◌, arith}
use Rattle.std.specs.Prelude.{IfSome, option_map, option_and_then}
use Rattle.std.specs.Ordering.{nat_cmp}
use Rattle.std.proofs.lemmas.Bool.{eq-eqb}
use Rattle.std.proofs.lemmas.List.{length-map, length-append}
use Rattle.map_model.specs.Maps.{at, IsSorted}
use Rattle.map_model.specs.MapLaws.{sorted-set}
use Rattle.session_core.specs.session_model.Subscriptions.{Live}
use Rattle.session_core.specs.session_model.Methods.{Phase, running, refused, finished, Method, Blocking, freed, phase_at, turned, fired, fire}
use Rattle.session_core.specs.session_model.State.{State}
use Rattle.session_core.specs.session_journal_laws.BlockingLaws.{turned_other, phase_new, phase_fired}
use Rattle.session_core.specs.session_journal_laws.Fired.{Armed, unfired, least_with, is_opening}
use Rattle.session_core.specs.session_journal_laws_for_proofs.FiredLaws.{number_order, fired_armed, turned_armed, called_armed, refused_armed}
use Rattle.session_core.specs.session_journal_laws.Stands.{end_of, armed_at, fired_state}
use Rattle.session_core.specs.session_state.declared.own.Step.{Step}
use Rattle.session_core.specs.session_state.declared.own.Step.TheVariants as step
use Rattle.session_core.specs.session_state.Own.{stepped, CanStep}
use Rattle.session_core.specs.Additions.{armed_by, CanArm}
use Rattle.session_core.specs.Kept.{IsCounted}
use Rattle.session_core.specs.Adding.{Follows}

-- ---- the call that blocks runs

abbrev Runs : Option Blocking → List Method → Type 0
Runs b ms = IfSome b (λ x. phase_at x.k ms ≡ Some running)

apart : (k j : ℕ) → (k == j) ≡ false → j ≡ k → ⊥
apart k j e same = true≢false (sym (eq-eqb k j (sym same)) ∙ e)

runs_turned : (k : ℕ) (p : Phase) (b : Option Blocking) (ms : List Method) → Runs b ms → Runs (freed k b) (turned k p ms)
runs_turned k p None ms r = tt
runs_turned k p (Some b) ms r = elim (k == b.k) as (λ c. k == b.k ≡ c → Runs (cond c None (Some b)) (turned k p ms)) [
  | true ↦ λ e. tt
  | false ↦ λ e. turned_other b.k k p ms (apart k b.k e) ∙ r
] refl

runs_freed : (k : ℕ) (b : Option Blocking) (ms : List Method) → Runs b ms → Runs (freed k b) ms
runs_freed k None ms r = tt
runs_freed k (Some b) ms r = elim (k == b.k) as (λ c. Runs (cond c None (Some b)) ms) [ true ↦ tt | false ↦ r ]

runs_stepped : (s : Step) (st : State) → Follows s st → Runs st.blocking st.methods → Runs (stepped s st).blocking (stepped s st).methods
runs_stepped (step.Handle id call) st f r = subst (λ k. phase_at k (st.methods ++ record { id = id; phase = running } ∷ []) ≡ Some running) (sym f) (phase_new st.methods (record { id = id; phase = running }))
runs_stepped (step.Refuse k) st f r = runs_turned k refused st.blocking st.methods r
runs_stepped (step.Unblock k) st f r = runs_freed k st.blocking st.methods r
runs_stepped (step.Finish k place) st f r = runs_turned k (finished place) st.blocking st.methods r
runs_stepped s st f r = r

runs_fired : (ls : List Live) (b : Option Blocking) (ms : List Method) → Runs b ms → Runs b (fire ls ms)
runs_fired ls None ms r = tt
runs_fired ls (Some b) ms r = phase_fired ls b.k ms ∙ ap (option_map (fired ls)) r

-- ---- the armed fences

armed_stepped : (s : Step) (st : State) (fences : Armed) → IsSorted nat_cmp fences → Follows s st → ((k : ℕ) → at nat_cmp fences k ≡ armed_at k st.methods) → (k : ℕ) → at nat_cmp (armed_by s fences) k ≡ armed_at k (stepped s st).methods
armed_stepped (step.Handle id call) st fences sorted f h k = h k ∙ called_armed k st.methods id
armed_stepped (step.Refuse n) st fences sorted f h k = h k ∙ sym (refused_armed k n st.methods f)
armed_stepped (step.Finish n place) st fences sorted f h k = turned_armed fences n place running st.methods sorted h f k
armed_stepped s st fences sorted f h k = h k

armed_sorted : (s : Step) (fences : Armed) → IsSorted nat_cmp fences → IsSorted nat_cmp (armed_by s fences)
armed_sorted (step.Finish n place) fences sorted = sorted-set number_order fences n (Some place) sorted
armed_sorted s fences sorted = sorted

-- ---- how many there are

length-turned : (k : ℕ) (p : Phase) (ms : List Method) → length (turned k p ms) ≡ length ms
length-turned k p [] = refl
length-turned zero p (m ∷ ms) = refl
length-turned (suc k) p (m ∷ ms) = ap suc (length-turned k p ms)

opened_stepped : (n : ℕ) (s : Step) (st : State) → st.opened ≤ n → (stepped s st).opened ≤ suc n
opened_stepped n (step.Open sub) st le = omega (arith, le)
opened_stepped n s st le = omega (arith, le)

calls_stepped : (n : ℕ) (s : Step) (st : State) → length st.methods ≤ n → length (stepped s st).methods ≤ suc n
calls_stepped n (step.Handle id call) st le = omega (arith, le, length-append st.methods (record { id = id; phase = running } ∷ []))
calls_stepped n (step.Refuse k) st le = omega (arith, le, length-turned k refused st.methods)
calls_stepped n (step.Finish k place) st le = omega (arith, le, length-turned k (finished place) st.methods)
calls_stepped n s st le = omega (arith, le)

-- ---- all of it

pub counted_after : (n : ℕ) (s : Step) (st : State) (fences : Armed) → IsSorted nat_cmp fences → Follows s st → IsCounted n st fences →
    let own = stepped s st in IsCounted (suc n) (fired_state own) (unfired (is_opening own.subs) (least_with None own.subs) (armed_by s fences))
counted_after n s st fences sorted f c =
    let own = stepped s st in
    record {
      opened = opened_stepped n s st c.opened;
      calls = subst (λ m. m ≤ suc n) (sym (length-map own.methods (λ (m : Method). record m { phase = fired own.subs m.phase }))) (calls_stepped n s st c.calls);
      runs = runs_fired own.subs own.blocking own.methods (runs_stepped s st f c.runs);
      armed = fired_armed own.subs (armed_by s fences) own.methods (armed_sorted s fences sorted) (armed_stepped s st fences sorted f c.armed);
    }

-- the step may be taken, and its fence isn't armed
pub can_step : (s : Step) (st : State) → Follows s st → CanStep s st
can_step (step.Refuse k) st f = f
can_step s st f = tt

pub can_arm : (n : ℕ) (s : Step) (st : State) (fences : Armed) → Follows s st → IsCounted n st fences → CanArm s fences
can_arm n (step.Finish k place) st fences f c = c.armed k ∙ ap (option_and_then end_of) f
can_arm n s st fences f c = tt
