-- The runs of calls make their steps, one run after another.
use Rattle.std.specs.Prelude.{◌≡◌, ℕ, ◌+◌, ◌==◌, List, [], ◌∷◌, ◌++◌, length, take, drop, replicate, Bool, true, false, not, ◌&&◌, ◌||◌, Option, Some, None, refl}
use Rattle.std.specs.List.{list_any}
use Rattle.std.proofs.Common.{ap, sym, subst, ◌∙◌}
use Rattle.std.proofs.Math.Seq.{take-length}
use Rattle.std.proofs.lemmas.Bool.{eqb-true, not-true, and_parts}
use Rattle.std.proofs.lemmas.List.Folds.{list_any-append}
use Rattle.map_model.specs.Maps.{at}
use Rattle.app_model.specs.App.{App}
use Rattle.program_steps.specs.declared.step.ProgramStep.{ProgramStep}
use Rattle.connection.specs.history_model.History.{run_cmp, Begun, no_steps, goes_on, Rise}
use Rattle.connection.specs.history_model.LimitLaws.{left_of}
use Rattle.rounds_model.specs.Rounds.{made, none_of}
use Rattle.connection.specs.world_model.declared.events.Act.{Act}
use Rattle.connection.specs.world_model.declared.events.Act.TheVariants as act
use Rattle.connection.specs.world_model.Store.{held_in}
use Rattle.connection.specs.world_model.Settle.{steps}
use Rattle.world_rounds_laws.specs.Visits.{Side, can_on, act_on, phase_on}
use Rattle.world_rounds_laws.specs.Steps.{left_in, all_stepped, Covers}
use Rattle.world_rounds_laws.specs.StepsLaws.{can_step, steps_are}
use Rattle.world_rounds_laws.specs.ListingLaws.{no_steps_listed}
use Rattle.world_core.specs.Visit.{AVisit, side, IsReady, IsLed, IsSame, AreMade, ArePassed}
use Rattle.world_core.specs.Acting.{count_of}
use Rattle.world_core.proofs.PhaseVisits.{side_same, same_on, same_itself, led_none, led_on}

-- the first so many calls have made their steps
pub record AreSteppedTill (calls : List ℕ) (i : ℕ) (v w : AVisit) (flag : Bool) : Type 0 where
  pub led : IsLed v w
  pub rest : all_stepped v.machine.app (drop i calls) (side w) ≡ all_stepped v.machine.app calls (side v)
  pub none : flag ≡ false → IsSame v w × ((k : ℕ) → list_any (λ j. k == j) (take i calls) ≡ true → can_on v.machine.app (side v) (act.Step k) ≡ false)

-- a call whose steps can't be made doesn't go on
none_goes_on : (app : App) (k : ℕ) (x : Side) → none_of (can_on app) (replicate (left_in app k x) (act.Step k)) x ≡ true → can_on app x (act.Step k) ≡ false
none_goes_on app k x none = by (at run_cmp (held_in app x.history).runs (x.conn.number, k)) refl
  where
    still : (left : List ProgramStep) → none_of (can_on app) (replicate (length left) (act.Step k)) x ≡ true → can_on app x (act.Step k) ≡ not (no_steps left) → can_on app x (act.Step k) ≡ false
    still [] e is = is
    still (step ∷ left) e is = not-true (can_on app x (act.Step k)) (and_parts (not (can_on app x (act.Step k))) (none_of (can_on app) (replicate (length left) (act.Step k)) x) e).0

    by : (o : Option Begun) → at run_cmp (held_in app x.history).runs (x.conn.number, k) ≡ o → can_on app x (act.Step k) ≡ false
    by None e = can_step app x k ∙ ap goes_on e
    by (Some b) e =
        still b.run.left (ap (λ (o : Option Begun). none_of (can_on app) (replicate (left_of o) (act.Step k)) x) (sym e) ∙ none) (can_step app x k ∙ ap goes_on e)

over : {A : Type 0} (xs : List A) → drop (length xs) xs ≡ []
over [] = refl
over (x ∷ xs) = over xs

module _ (calls : List ℕ) where
  pub steps_begin : (v : AVisit) → IsReady v → AreSteppedTill calls 0 v v false
  steps_begin v r = record { led = led_none v r; rest = refl; none = λ e. (same_itself v, λ k some. cc some) }

  module _ (i k : ℕ) (first : drop i calls ≡ k ∷ drop (i + 1) calls) (more : take (i + 1) calls ≡ take i calls ++ k ∷ []) (v w x : AVisit) (flag : Bool) (t : AreSteppedTill calls i v w flag) where
    abbrev app : App
    app = v.machine.app

    stepped : (some : Bool) → AreMade (replicate (count_of w.machine.app (act.Step k) (side w)) (act.Step k)) w x some → all_stepped app (drop (i + 1) calls) (side x) ≡ all_stepped app calls (side v)
    stepped some m =
        let to : made (act_on app) (replicate (left_in app k (side w)) (act.Step k)) (side w) ≡ side x =
        subst (λ (p : App). made (act_on p) (replicate (left_in p k (side w)) (act.Step k)) (side w) ≡ side x) t.led.app m.leads in
        ap (all_stepped app (drop (i + 1) calls)) (sym to) ∙ (ap (λ (ks : List ℕ). all_stepped app ks (side w)) (sym first) ∙ t.rest)

    pub steps_made_on : AreMade (replicate (count_of w.machine.app (act.Step k) (side w)) (act.Step k)) w x true → AreSteppedTill calls (i + 1) v x true
    steps_made_on m = record { led = led_on v w x t.led m.led; rest = stepped true m; none = λ e. cc e }

    pub steps_left_on : AreMade (replicate (count_of w.machine.app (act.Step k) (side w)) (act.Step k)) w x false → AreSteppedTill calls (i + 1) v x flag
    steps_left_on m = record {
      led = led_on v w x t.led m.led;
      rest = stepped false m;
      none = λ e.
          let s = t.none e in
          let off = m.none refl in
          let still : can_on app (side v) (act.Step k) ≡ false =
          subst (λ (y : Side). can_on app y (act.Step k) ≡ false) (sym (side_same v w s.0)) (subst (λ (p : App). can_on p (side w) (act.Step k) ≡ false) t.led.app (none_goes_on w.machine.app k (side w) off.1)) in
          (same_on v w x s.0 off.0, λ j some. among j still s.1 (sym (list_any-append (λ n. j == n) (take i calls) (k ∷ [])) ∙ (ap (list_any (λ n. j == n)) (sym more) ∙ some)));
    }
      where
        among : (j : ℕ) → can_on app (side v) (act.Step k) ≡ false → ((n : ℕ) → list_any (λ m. n == m) (take i calls) ≡ true → can_on app (side v) (act.Step n) ≡ false) →
            (list_any (λ n. j == n) (take i calls) || (j == k || false)) ≡ true → can_on app (side v) (act.Step j) ≡ false
        among j still before some = by (list_any (λ n. j == n) (take i calls)) refl some
          where
            own : (b : Bool) → j == k ≡ b → (b || false) ≡ true → can_on app (side v) (act.Step j) ≡ false
            own true e some = subst (λ n. can_on app (side v) (act.Step n) ≡ false) (sym (eqb-true j k e)) still
            own false e some = cc some

            by : (b : Bool) → list_any (λ n. j == n) (take i calls) ≡ b → (b || (j == k || false)) ≡ true → can_on app (side v) (act.Step j) ≡ false
            by true e some = before j e
            by false e some = own (j == k) refl some

  pub steps_end : (v w : AVisit) (flag : Bool) (i : ℕ) → i ≡ length calls → Rise calls → Covers v.client.session.carried.number calls (held_in v.machine.app v.machine.history).runs → AreSteppedTill calls i v w flag → ArePassed (steps ∷ []) v w flag
  steps_end v w flag i end rise covers t =
      let app = v.machine.app in
      record {
        led = t.led;
        leads = sym (steps_are app calls (side v) rise covers) ∙ (sym t.rest ∙ ap (λ (ks : List ℕ). all_stepped app ks (side w)) (ap (λ n. drop n calls) end ∙ over calls));
        none = λ e.
            let s = t.none e in
            let listed : phase_on app steps (side v) ≡ [] = no_steps_listed app calls (side v) covers (λ k some. s.1 k (ap (λ n. list_any (λ j. k == j) (take n calls)) end ∙ (ap (list_any (λ j. k == j)) (take-length calls) ∙ some))) in
            (s.0, ap (λ (acts : List Act). none_of (can_on app) acts (side v) && true) listed);
      }
