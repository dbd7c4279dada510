-- Phases, one after another.
use Rattle.std.specs.Prelude.{◌≡◌, ℕ, suc, List, [], ◌∷◌, ◌++◌, length, map, Bool, true, false, cond, ◌&&◌, ◌||◌, Result, Ok, Err, refl}
use Rattle.std.proofs.Common.{ap, ap₂, sym, subst, ◌∙◌}
use Rattle.std.proofs.lemmas.Bool.{and_parts}
use Rattle.app_model.specs.App.{App}
use Rattle.connection.specs.history_model.History.{Rise}
use Rattle.connection.specs.session_model.Subscriptions.{Live}
use Rattle.connection.specs.session_model.Methods.{Phase as CallPhase, running, refused, finished, told, Method}
use Rattle.connection.specs.session_model.Counting.{is_running}
use Rattle.connection.specs.session_model.State.{State}
use Rattle.rounds_model.specs.Rounds.{made, through, none_of, none_in}
use Rattle.connection.specs.world_model.declared.events.Act.{Act}
use Rattle.connection.specs.world_model.declared.events.Act.TheVariants as act
use Rattle.connection.specs.world_model.Store.{held_in}
use Rattle.connection.specs.world_model.Conn.{state_in}
use Rattle.connection.specs.world_model.Settle.{Phase, begins, learns, loadings, advancings, loads, running_from}
use Rattle.world_rounds_laws.specs.Visits.{Side, can_on, act_on, phase_on}
use Rattle.world_rounds_laws.specs.VisitsLaws.{act_none}
use Rattle.world_rounds_laws.specs.Steps.{Covers}
use Rattle.connection.specs.session_state.Work.{running_by, running_from as running_in}
use Rattle.connection.specs.connection_laws.Connection.{as_conn}
use Rattle.connection.specs.connection_laws.StandingLaws.{state_is}
use Rattle.world_rounds_laws.specs.CoveringLaws.{running_rises, running_covers}
use Rattle.world_rounds_laws.specs.Listing.{behind}
use Rattle.world_rounds_laws.specs.ListingLaws.{advances_left, advances_none}
use Rattle.world_core.specs.Visit.{AVisit, side, IsReady, AreMade, Makes, ArePassed, Passes}
use Rattle.world_core.specs.Acting.{Tried, learns_of}
use Rattle.world_core.proofs.PhaseVisits.{side_same, same_on, led_left, led_on, none_one}

and_true : (b : Bool) → b ≡ true → (b && true) ≡ true
and_true true e = refl
and_true false e = e

-- the acts that a phase lists
pub one_passed : (p : Phase) (acts : List Act) (v w : AVisit) (flag : Bool) → acts ≡ phase_on v.machine.app p (side v) → AreMade acts v w flag → ArePassed (p ∷ []) v w flag
one_passed p acts v w flag is m = record {
  led = m.led;
  leads = ap (λ (as_ : List Act). made (act_on v.machine.app) as_ (side v)) (sym is) ∙ m.leads;
  none = λ e. let s = m.none e in (s.0, and_true (none_of (can_on v.machine.app) (phase_on v.machine.app p (side v)) (side v)) (ap (λ (as_ : List Act). none_of (can_on v.machine.app) as_ (side v)) (sym is) ∙ s.1));
}

-- the same of what is answered
pub listed : {E : Type 0} (p : Phase) (acts : List Act) (v w : AVisit) (result : Result Bool E) → acts ≡ phase_on v.machine.app p (side v) → Makes acts v w result → Passes (p ∷ []) v w result
listed p acts v w (Ok flag) is m = one_passed p acts v w flag is m
listed p acts v w (Err e) is m = m

-- an act that is repeated as often as its phase lists it
pub repeated : (p : Phase) (v w : AVisit) (flag : Bool) → AreMade (phase_on v.machine.app p (side v)) v w flag → ArePassed (p ∷ []) v w flag
repeated p v w flag m = one_passed p (phase_on v.machine.app p (side v)) v w flag refl m

-- ---- phases behind phases

through_both : (app : App) (ps qs : List Phase) (s : Side) → through (act_on app) (map (phase_on app) (ps ++ qs)) s ≡ through (act_on app) (map (phase_on app) qs) (through (act_on app) (map (phase_on app) ps) s)
through_both app [] qs s = refl
through_both app (p ∷ ps) qs s = through_both app ps qs (made (act_on app) (phase_on app p s) s)

none_through : (app : App) (ps qs : List Phase) (s : Side) → none_in (can_on app) (map (phase_on app) ps) s ≡ true → none_in (can_on app) (map (phase_on app) qs) s ≡ true → none_in (can_on app) (map (phase_on app) (ps ++ qs)) s ≡ true
none_through app [] qs s e f = f
none_through app (p ∷ ps) qs s e f =
    let both = and_parts (none_of (can_on app) (phase_on app p s) s) (none_in (can_on app) (map (phase_on app) ps) s) e in
    ap (λ b. b && none_in (can_on app) (map (phase_on app) (ps ++ qs)) s) both.0 ∙ none_through app ps qs s both.1 f

neither : (a b : Bool) → (a || b) ≡ false → (a ≡ false) × (b ≡ false)
neither true b e = cc e
neither false b e = (refl, e)

pub passed_on : (ps qs : List Phase) (u v w : AVisit) (a b : Bool) → ArePassed ps u v a → ArePassed qs v w b → ArePassed (ps ++ qs) u w (a || b)
passed_on ps qs u v w a b p q =
    let app = u.machine.app in
    let to : through (act_on app) (map (phase_on app) qs) (side v) ≡ side w = subst (λ (x : App). through (act_on x) (map (phase_on x) qs) (side v) ≡ side w) p.led.app q.leads in
    record {
      led = led_on u v w p.led q.led;
      leads = through_both app ps qs (side u) ∙ (ap (through (act_on app) (map (phase_on app) qs)) p.leads ∙ to);
      none = λ e.
          let off = neither a b e in
          let s = p.none off.0 in
          let t = q.none off.1 in
          let here : none_in (can_on app) (map (phase_on app) qs) (side u) ≡ true =
          subst (λ (x : Side). none_in (can_on app) (map (phase_on app) qs) x ≡ true) (sym (side_same u v s.0)) (subst (λ (x : App). none_in (can_on x) (map (phase_on x) qs) (side v) ≡ true) p.led.app t.1) in
          (same_on u v w s.0 t.0, none_through app ps qs (side u) s.1 here);
    }

pub first_made : (ps qs : List Phase) (u v w : AVisit) (a b : Bool) → a ≡ true → ArePassed ps u v a → ArePassed qs v w b → ArePassed (ps ++ qs) u w a
first_made ps qs u v w a b is p q = subst (ArePassed (ps ++ qs) u w) (ap (λ x. x || b) is ∙ sym is) (passed_on ps qs u v w a b p q)

pub first_idle : (ps qs : List Phase) (u v w : AVisit) (a b : Bool) → a ≡ false → ArePassed ps u v a → ArePassed qs v w b → ArePassed (ps ++ qs) u w b
first_idle ps qs u v w a b is p q = subst (ArePassed (ps ++ qs) u w) (ap (λ x. x || b) is) (passed_on ps qs u v w a b p q)

-- ---- one act

pub begun : (v w : AVisit) (flag : Bool) → Tried act.Begin v w flag → ArePassed (begins ∷ []) v w flag
begun v w true m = record { led = m.led; leads = m.leads; none = λ e. cc e }
begun v w false l = record {
  led = led_left v w l.0;
  leads = act_none v.machine.app act.Begin (side v) l.1 ∙ side_same v w l.0.same;
  none = λ e. (l.0.same, and_true (none_of (can_on v.machine.app) (act.Begin ∷ []) (side v)) (none_one (can_on v.machine.app) act.Begin (side v) l.1));
}

-- ---- calls and subscriptions

running_is : (k : ℕ) (ms : List Method) → running_in k ms ≡ running_from k ms
running_is k [] = refl
running_is k (m ∷ ms) = ap (λ (ks : List ℕ). running_by k m.phase ++ ks) (running_is (suc k) ms) ∙ by m.phase
  where
    by : (p : CallPhase) → running_by k p ++ running_from (suc k) ms ≡ cond (is_running p) (k ∷ running_from (suc k) ms) (running_from (suc k) ms)
    by running = refl
    by refused = refl
    by (finished place) = refl
    by (told place) = refl

module _ (v : AVisit) (r : IsReady v) where
  pub own_is : state_in (as_conn v.client) ≡ v.client.session.carried.own
  own_is = state_is v.machine.app v.client.own.name v.machine.history v.client r.connection

  -- the calls that run, as the session lists them
  pub calls_are : (calls : List ℕ) → calls ≡ running_in 0 v.client.session.carried.own.methods → calls ≡ running_from 0 (state_in (as_conn v.client)).methods
  calls_are calls is = is ∙ (running_is 0 v.client.session.carried.own.methods ∙ ap (λ (st : State). running_from 0 st.methods) (sym own_is))

  pub calls_rise : (calls : List ℕ) → calls ≡ running_in 0 v.client.session.carried.own.methods → Rise calls
  calls_rise calls is = subst Rise (sym (calls_are calls is)) (running_rises 0 (state_in (as_conn v.client)).methods)

  pub calls_cover : (calls : List ℕ) → calls ≡ running_in 0 v.client.session.carried.own.methods → Covers v.client.session.carried.number calls (held_in v.machine.app v.machine.history).runs
  calls_cover calls is =
      subst (λ (ks : List ℕ). Covers v.client.session.carried.number ks (held_in v.machine.app v.machine.history).runs) (sym (calls_are calls is)) (running_covers v.machine.app v.machine.history (as_conn v.client) r.linked.served)

  pub learns_are : (calls : List ℕ) (place : ℕ) → place ≡ length v.machine.history → calls ≡ running_in 0 v.client.session.carried.own.methods → learns_of place calls ≡ phase_on v.machine.app learns (side v)
  learns_are calls place here is = ap₂ (λ (n : ℕ) (ks : List ℕ). map (λ k. act.Learn k n) ks) here (calls_are calls is)

  pub loads_are : (subs : List Live) (place : ℕ) → place ≡ length v.machine.history → subs ≡ v.client.session.carried.own.subs → loads place subs ≡ phase_on v.machine.app loadings (side v)
  loads_are subs place here is = ap₂ loads here (is ∙ ap (λ (st : State). st.subs) (sym own_is))

  behind_are : (subs : List Live) (place : ℕ) → place ≡ length v.machine.history → subs ≡ v.client.session.carried.own.subs → behind place subs ≡ behind (length v.machine.history) (state_in (as_conn v.client)).subs
  behind_are subs place here is = ap₂ behind here (is ∙ ap (λ (st : State). st.subs) (sym own_is))

  -- the subscriptions that show less than the history has
  advanced : (subs : List Live) (place : ℕ) (w : AVisit) (flag : Bool) → place ≡ length v.machine.history → subs ≡ v.client.session.carried.own.subs → AreMade (behind place subs) v w flag → ArePassed (advancings ∷ []) v w flag
  advanced subs place w flag here is m =
      let app = v.machine.app in
      let ls = (state_in (as_conn v.client)).subs in
      let n = length v.machine.history in
      let same = behind_are subs place here is in
      record {
        led = m.led;
        leads = advances_left app n ls (side v) ∙ (ap (λ (acts : List Act). made (act_on app) acts (side v)) (sym same) ∙ m.leads);
        none = λ e.
            let s = m.none e in
            (s.0, and_true (none_of (can_on app) (phase_on app advancings (side v)) (side v)) (advances_none app n ls (side v) ∙ (ap (λ (acts : List Act). none_of (can_on app) acts (side v)) (sym same) ∙ s.1)));
      }

  pub all_advanced : {E : Type 0} (subs : List Live) (acts : List Act) (place : ℕ) (w : AVisit) (result : Result Bool E) → acts ≡ behind place subs → place ≡ length v.machine.history → subs ≡ v.client.session.carried.own.subs → Makes acts v w result →
      Passes (advancings ∷ []) v w result
  all_advanced subs acts place w (Ok flag) lists here is m = advanced subs place w flag here is (subst (λ (as_ : List Act). AreMade as_ v w flag) lists m)
  all_advanced subs acts place w (Err e) lists here is m = m
