-- Laws: Acts that a phase lists though none of them can be made: steps where no call goes on, and advances of a subscription that shows the end of the history.
use Rattle.std.specs.Prelude.{◌≡◌, ℕ, zero, suc, ◌-◌, ◌==◌, nat_lt, List, [], ◌∷◌, ◌++◌, length, replicate, Bool, true, false, cond, not, ◌&&◌}
use Rattle.std.specs.Prelude.{Option, Some, None, if◌then◌else◌, refl}
use Rattle.std.specs.List.{list_any}
use Rattle.std.specs.Map.{keys_of}
use Rattle.std.specs.Ordering.{eq_by_cmp}
use Rattle.std.proofs.Common.{ap, ap₂, sym, ◌∙◌, arith}
use Rattle.std.proofs.lemmas.Bool.{eqb-true, ltb-false}
use Rattle.std.proofs.lemmas.Map.Keys.{sorted_tail}
use Rattle.map_model.specs.Maps.{at, IsSorted}
use Rattle.map_model.specs.MapLaws.{key_is, eq_by_cmp-self, at-tail}
use Rattle.app_model.specs.App.{App}
use Rattle.program_steps.specs.declared.step.ProgramStep.{ProgramStep}
use Rattle.world_invariant_laws.specs.history_model.History.{RunKey, run_cmp, Begun, Runs, no_steps, goes_on}
use Rattle.world_invariant_laws.specs.history_model.HistoryLaws.{run_order}
use Rattle.world_invariant_laws.specs.history_model.RunsLaws.{held_is}
use Rattle.world_invariant_laws.specs.history_model.LimitLaws.{left_of}
use Rattle.world_invariant_laws.specs.session_model.Subscriptions.{Live, cursor_of}
use Rattle.rounds_model.specs.Rounds.{made, none_of}
use Rattle.world_invariant_laws.specs.world_model.declared.events.Act.{Act}
use Rattle.world_invariant_laws.specs.world_model.declared.events.Act.TheVariants as act
use Rattle.world_invariant_laws.specs.world_model.declared.events.Answer.TheVariants as answer
use Rattle.world_invariant_laws.specs.world_model.Store.{programs, held_in}
use Rattle.world_invariant_laws.specs.world_model.Conn.{state_in, is_full, is_at_work}
use Rattle.world_invariant_laws.specs.world_model.Acts.{may_advance, is_done}
use Rattle.world_invariant_laws.specs.world_model.Settle.{steps, steps_of, advance_to, advances}
use Rattle.world_rounds_laws.specs.Visits.{Side, can_on, act_on, phase_on}
use Rattle.world_rounds_laws.specs.VisitsLaws.{act_none}
use Rattle.world_rounds_laws.specs.RepeatsLaws.{made-append}
use Rattle.world_rounds_laws.specs.Steps.{left_at, Covers}
use Rattle.world_rounds_laws.specs.StepsLaws.{can_step}
use Rattle.world_rounds_laws.specs.Listing.{behind, behind_by}

-- ---- steps

none_left : (left : List ProgramStep) → not (no_steps left) ≡ false → length left ≡ 0
none_left [] e = refl
none_left (step ∷ left) e = cc e

over_none : (o : Option Begun) → goes_on o ≡ false → left_of o ≡ 0
over_none None e = refl
over_none (Some b) e = none_left b.run.left e

module _ (n : ℕ) where
  other_key : (j k m : ℕ) → (n ≡ m → j ≡ k → ⊥) → eq_by_cmp run_cmp (n, j) (m, k) ≡ false
  other_key j k m differ = by (eq_by_cmp run_cmp (n, j) (m, k)) refl
    where
      by : (b : Bool) → eq_by_cmp run_cmp (n, j) (m, k) ≡ b → b ≡ false
      by false e = refl
      by true e = let same : (n, j) ≡ (m, k) = key_is run_order (n, j) (m, k) e in absurd
          (differ (ap (λ (q : RunKey). q.0) same) (ap (λ (q : RunKey). q.1) same))

  -- behind the first run
  behind_first : (m k : ℕ) (b : Begun) (runs : Runs) → IsSorted run_cmp (((m, k), b) ∷ runs) → ((j : ℕ) → left_at (((m, k), b) ∷ runs) n j ≡ 0) →
      (j : ℕ) → left_at runs n j ≡ 0
  behind_first m k b runs sorted none j = by (eq_by_cmp run_cmp (n, j) (m, k)) refl
    where
      by : (c : Bool) → eq_by_cmp run_cmp (n, j) (m, k) ≡ c → left_at runs n j ≡ 0
      by true e = ap left_of (at-tail run_order ((m, k), b) runs (n, j) sorted e)
      by false e = sym (ap (λ c. left_of (cond c (Some b) (at run_cmp runs (n, j)))) e) ∙ none j

  -- where no run of the session has a step left, no step is listed
  none_listed : (runs : Runs) → IsSorted run_cmp runs → ((j : ℕ) → left_at runs n j ≡ 0) → steps_of n runs ≡ []
  none_listed [] sorted none = refl
  none_listed (r ∷ runs) sorted none =
      let rest = none_listed runs (sorted_tail run_cmp r.0 (keys_of runs) sorted) (behind_first r.0.0 r.0.1 r.1 runs sorted none) in
      elim (n == r.0.0) as (λ c. n == r.0.0 ≡ c → cond c (replicate (length r.1.run.left) (act.Step r.0.1) ++ steps_of n runs) (steps_of n runs) ≡ []) [
        | true ↦ λ e.
            let key : (n, r.0.1) ≡ (r.0.0, r.0.1) = ap (λ m. (m, r.0.1)) (eqb-true n r.0.0 e) in
            let own : length r.1.run.left ≡ 0 =
            sym (ap (λ c. left_of (cond c (Some r.1) (at run_cmp runs (n, r.0.1))))
            (ap (λ (q : RunKey). eq_by_cmp run_cmp q (r.0.0, r.0.1)) key ∙ eq_by_cmp-self run_order (r.0.0, r.0.1))) ∙ none r.0.1 in
            ap (λ m. replicate m (act.Step r.0.1) ++ steps_of n runs) own ∙ rest
        | false ↦ λ e. rest
      ] refl

-- none of the calls goes on that cover the session's runs
pub no_steps_listed : (app : App) (ks : List ℕ) (x : Side) → Covers x.conn.number ks (held_in app x.history).runs →
    ((k : ℕ) → list_any (λ i. k == i) ks ≡ true → can_on app x (act.Step k) ≡ false) → phase_on app steps x ≡ []
no_steps_listed app ks x covers off =
    let runs = (held_in app x.history).runs in
    none_listed x.conn.number runs (held_is (programs app) x.history).sorted (λ j. by j (left_at runs x.conn.number j) refl)
  where
    by : (j m : ℕ) → left_at (held_in app x.history).runs x.conn.number j ≡ m → m ≡ 0
    by j zero e = refl
    by j (suc m) e =
        let some : left_at (held_in app x.history).runs x.conn.number j ≡ 0 → ⊥ = λ z. omega (arith, z, e) in
        absurd (some (over_none (at run_cmp (held_in app x.history).runs (x.conn.number, j)) (sym (can_step app x j) ∙ off j (covers j some))))

-- ---- advances

right_false : (b : Bool) → (b && false) ≡ false
right_false true = refl
right_false false = refl

-- no subscription goes no entry on
goes_nowhere : (app : App) (x : Side) (sub count : ℕ) → count ≡ 0 → can_on app x (act.Advance sub count) ≡ false
goes_nowhere app x sub count none =
    let off : may_advance (length x.history) count (cursor_of sub (state_in x.conn).subs) ≡ false = by (cursor_of sub (state_in x.conn).subs) in
    ap (λ b. is_done (if not (is_at_work x.conn && b) then answer.Idle else (if is_full x.conn then answer.JournalFull else answer.Done))) off
    ∙ ap (λ b. is_done (if not b then answer.Idle else (if is_full x.conn then answer.JournalFull else answer.Done))) (right_false (is_at_work x.conn))
  where
    by : (o : Option ℕ) → may_advance (length x.history) count o ≡ false
    by None = refl
    by (Some cursor) = ap (λ n. may_advance (length x.history) n (Some cursor)) none

module _ (app : App) where
  one_left : (entries sub : ℕ) (o : Option ℕ) (x : Side) → made (act_on app) (advance_to entries sub o) x ≡ made (act_on app) (behind_by entries sub o) x
  one_left entries sub None x = refl
  one_left entries sub (Some cursor) x =
      elim (nat_lt cursor entries) as
      (λ b. nat_lt cursor entries ≡ b →
      act_on app (act.Advance sub (entries - cursor)) x ≡ made (act_on app) (cond b (act.Advance sub (entries - cursor) ∷ []) []) x) [
        | true ↦ λ e. refl
        | false ↦ λ e.
            let none : entries - cursor ≡ 0 = omega (arith, ltb-false cursor entries e) in
            act_none app (act.Advance sub (entries - cursor)) x (goes_nowhere app x sub (entries - cursor) none)
      ] refl

  -- they may be left out where the subscription shows the end
  pub advances_left : (entries : ℕ) (ls : List Live) (x : Side) → made (act_on app) (advances entries ls) x ≡ made (act_on app) (behind entries ls) x
  advances_left entries [] x = refl
  advances_left entries (l ∷ ls) x =
      made-append (act_on app) (advance_to entries l.sub l.cursor) (advances entries ls) x
      ∙ (ap (made (act_on app) (advances entries ls)) (one_left entries l.sub l.cursor x)
      ∙ (advances_left entries ls (made (act_on app) (behind_by entries l.sub l.cursor) x)
      ∙ sym (made-append (act_on app) (behind_by entries l.sub l.cursor) (behind entries ls) x)))

  none_both : (as_ bs : List Act) (x : Side) → none_of (can_on app) (as_ ++ bs) x ≡ (none_of (can_on app) as_ x && none_of (can_on app) bs x)
  none_both [] bs x = refl
  none_both (a ∷ as_) bs x = ap (λ b. not (can_on app x a) && b) (none_both as_ bs x)
      ∙ sym (and_assoc (not (can_on app x a)) (none_of (can_on app) as_ x) (none_of (can_on app) bs x))
    where
      and_assoc : (a b c : Bool) → ((a && b) && c) ≡ (a && (b && c))
      and_assoc true b c = refl
      and_assoc false b c = refl

  one_none : (entries sub : ℕ) (o : Option ℕ) (x : Side) → none_of (can_on app) (advance_to entries sub o) x ≡ none_of (can_on app) (behind_by entries sub o) x
  one_none entries sub None x = refl
  one_none entries sub (Some cursor) x =
      elim (nat_lt cursor entries) as
      (λ b. nat_lt cursor entries ≡ b → none_of (can_on app) (act.Advance sub (entries - cursor) ∷ []) x
      ≡ none_of (can_on app) (cond b (act.Advance sub (entries - cursor) ∷ []) []) x) [
        | true ↦ λ e. refl
        | false ↦ λ e.
            let none : entries - cursor ≡ 0 = omega (arith, ltb-false cursor entries e) in
            ap (λ b. not b && true) (goes_nowhere app x sub (entries - cursor) none)
      ] refl

  pub advances_none : (entries : ℕ) (ls : List Live) (x : Side) → none_of (can_on app) (advances entries ls) x ≡ none_of (can_on app) (behind entries ls) x
  advances_none entries [] x = refl
  advances_none entries (l ∷ ls) x =
      none_both (advance_to entries l.sub l.cursor) (advances entries ls) x
      ∙ (ap₂ (λ a b. a && b) (one_none entries l.sub l.cursor x) (advances_none entries ls x)
      ∙ sym (none_both (behind_by entries l.sub l.cursor) (behind entries ls) x))
