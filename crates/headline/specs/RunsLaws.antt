-- Laws: What an entry leaves of runs: a step begins none and leaves fewer steps to be made, and a run that was begun stays begun.
use Rattle.std.specs.Prelude.{◌≡◌, ℕ, zero, suc, ◌<◌, List, [], ◌∷◌, ◌++◌, length, take, Bool, true, false, cond, ◌||◌, Option, Some, None, is_some}
use Rattle.std.specs.Prelude.{IfSome, refl}
use Rattle.std.specs.List.{list_any}
use Rattle.std.proofs.Common.{ap, sym, subst, ◌∙◌, arith}
use Rattle.std.proofs.lemmas.Bool.{not-true}
use Rattle.std.proofs.lemmas.List.Folds.{list_any-append}
use Rattle.map_model.specs.Maps.{at}
use Rattle.map_model.specs.MapLaws.{eq_by_cmp-self}
use Rattle.program_steps.specs.declared.step.ProgramStep.{ProgramStep}
use Rattle.program_steps.specs.declared.outcome.Status.{Status}
use Rattle.world_model.specs.program_model.Kept.{is_over, IsRun}
use Rattle.world_model.specs.program_model.RunLaws.{stepped_less}
use Rattle.world_model.specs.program_model.Steps.{stepped}
use Rattle.app_model.specs.App.{App}
use Rattle.world_model.specs.session_model.Methods.{Blocking}
use Rattle.world_model.specs.history_model.declared.entry.Entry.{Entry}
use Rattle.world_model.specs.history_model.declared.entry.Entry.TheVariants as entry
use Rattle.world_model.specs.history_model.HistoryLaws.{run_order, held-append}
use Rattle.world_model.specs.history_model.RunsLaws as runs
use Rattle.world_model.specs.history_model.Bounds.{IsHeld, IsBegun}
use Rattle.world_model.specs.history_model.BegunLaws.{run_where_begun}
use Rattle.world_model.specs.history_model.History.{Programs, RunKey, run_cmp, Begun, Held, later, setting_in, no_steps, goes_on, with_step}
use Rattle.world_model.specs.history_model.History.{with_stepped, reserved, status_at, begins}
use Rattle.world_model.specs.Store.{programs, held_in}
use Rattle.world_model.specs.Acts.{begin_entry}
use Rattle.headline.specs.SumsLaws.{sum-put}
use Rattle.headline.specs.Runs.{has_run}

-- ---- which calls have a run

begun_on : (app : App) (history : List Entry) (e : Entry) (n k : ℕ) →
    has_run app (history ++ e ∷ []) n k ≡ (has_run app history n k || (begins (n, k) e || false))
begun_on app history e n k =
    run_where_begun (programs app) (history ++ e ∷ []) n k
    ∙ (list_any-append (begins (n, k)) history (e ∷ []) ∙ ap (λ b. b || (begins (n, k) e || false)) (sym (run_where_begun (programs app) history n k)))

or_none : (b : Bool) → (b || false) ≡ b
or_none true = refl
or_none false = refl

or_some : (b : Bool) → (b || true) ≡ true
or_some true = refl
or_some false = refl

-- a step begins none
pub step_begins_none : (app : App) (history : List Entry) (m j n k : ℕ) → has_run app (history ++ entry.Step m j ∷ []) n k ≡ has_run app history n k
step_begins_none app history m j n k = begun_on app history (entry.Step m j) n k ∙ or_none (has_run app history n k)

-- one that was begun stays so
pub run_stays : (app : App) (history : List Entry) (e : Entry) (n k : ℕ) → has_run app history n k ≡ true → has_run app (history ++ e ∷ []) n k ≡ true
run_stays app history e n k is = begun_on app history e n k ∙ ap (λ b. b || (begins (n, k) e || false)) is

-- the call that is begun has one then
pub begun_runs : (app : App) (history : List Entry) (n : ℕ) (b : Blocking) → has_run app (history ++ begin_entry n b ∷ []) n b.k ≡ true
begun_runs app history n b =
    begun_on app history (begin_entry n b) n b.k
    ∙ (ap (λ x. has_run app history n b.k || (x || false)) (eq_by_cmp-self run_order (n, b.k)) ∙ or_some (has_run app history n b.k))

any_taken : {A : Type 0} (p : A → Bool) (n : ℕ) (xs : List A) → list_any p (take n xs) ≡ true → list_any p xs ≡ true
any_taken p zero xs e = cc e
any_taken p (suc n) [] e = e
any_taken p (suc n) (x ∷ xs) e = elim (p x) as
    (λ b. (b || list_any p (take n xs)) ≡ true → (b || list_any p xs) ≡ true) [ true ↦ λ h. refl | false ↦ λ h. any_taken p n xs h ] e

-- a call that had a run at a place of the history has one at its end
pub run_then : (app : App) (history : List Entry) (place n k : ℕ) (status : Status) → status_at (programs app) history place n k ≡ Some status →
    has_run app history n k ≡ true
run_then app history place n k status is =
    run_where_begun (programs app) history n k
    ∙ any_taken (begins (n, k)) place history (sym (run_where_begun (programs app) (take place history) n k) ∙ ap is_some is)

-- ---- steps that are still to be made

steps_left : RunKey × Begun → ℕ
steps_left r = length r.1.run.left

not_over : (left : List ProgramStep) → no_steps left ≡ false → is_over left ≡ false
not_over [] e = e
not_over (step ∷ steps) e = refl

fewer_left : (app : Programs) (h : Held) (key : RunKey) (b : Begun) → at run_cmp h.runs key ≡ Some b → IsRun b.run → no_steps b.run.left ≡ false →
    IsHeld h → reserved (with_stepped h key (stepped (setting_in app h) h.rows b.run)).runs < reserved h.runs
fewer_left app h key b is run going i =
    let s = stepped (setting_in app h) h.rows b.run in
    let less = stepped_less (setting_in app h) h.rows b.run run (not_over b.run.left going) in
    let next : Begun = record { run = s.run; at = suc h.entries } in
    let sums = sum-put run_cmp run_order (λ (r : RunKey × Begun). length r.1.run.left) h.runs key b next (λ x y v. refl) i.sorted is in
    omega (arith, sums, less)

stepped_fewer : (app : Programs) (h : Held) (key : RunKey) (o : Option Begun) → at run_cmp h.runs key ≡ o → IfSome o (IsBegun h.entries) →
    goes_on o ≡ true → IsHeld h → reserved (with_step app h key o).runs < reserved h.runs
stepped_fewer app h key None is b goes i = absurd (cc goes)
stepped_fewer app h key (Some b) is run goes i =
    let going = not-true (no_steps b.run.left) goes in
    subst (λ (c : Bool). reserved (cond c (later h) (with_stepped h key (stepped (setting_in app h) h.rows b.run))).runs < reserved h.runs)
    (sym going) (fewer_left app h key b is run.0 going i)

-- a step leaves fewer
pub step_leaves_fewer : (app : App) (history : List Entry) (n k : ℕ) → goes_on (at run_cmp (held_in app history).runs (n, k)) ≡ true →
    reserved (held_in app (history ++ entry.Step n k ∷ [])).runs < reserved (held_in app history).runs
step_leaves_fewer app history n k goes =
    let h = held_in app history in
    let i = runs.held_is (programs app) history in
    subst (λ (x : Held). reserved x.runs < reserved h.runs) (sym (held-append (programs app) history (entry.Step n k)))
    (stepped_fewer (programs app) h (n, k) (at run_cmp h.runs (n, k)) refl (i.begun (n, k)) goes i)
