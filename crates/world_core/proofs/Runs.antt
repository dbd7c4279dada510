-- Runs of clients that are told at once: a round goes on behind them as if it had come to each of them.
use Rattle.ejson_value.specs.declared.memory.Mem.{Mem}
use Rattle.std.specs.Prelude.{◌≡◌, ℕ, ◌+◌, ◌≤◌, List, [], ◌∷◌, ◌++◌, Bool, true, false, cond, ◌||◌, Option, None, Some, Result, Ok, Err, IfSome, refl}
use Rattle.std.specs.BTreeMap.{insert_entry}
use Rattle.std.specs.Ordering.{is_le, is_lt, eq_by_cmp}
use Rattle.std.specs.Cmp.{tied_itself}
use Rattle.std.proofs.Common.{ap, sym, subst, ◌∙◌, arith, inl, inr}
use Rattle.map_model.specs.Maps.{at}
use Rattle.map_model.specs.MapLaws.{at-put, key_is}
use Rattle.value_model.specs.Order.{text_cmp}
use Rattle.ejson_value.specs.Key.{name_order}
use Rattle.world_core.specs.store_machine.State.{MachineState}
use Rattle.world_core.specs.world_rounds_laws.Visits.{Side}
use Rattle.world_core.specs.connection_laws.Connection.{AConnection, IsConnection}
use Rattle.world_core.specs.connection.Asks.{asks_nothing}
use Rattle.world_core.specs.multiplexer.Telling.{ANews, nothing_told}
use Rattle.world_core.specs.Visit.{visit}
use Rattle.world_core.specs.Visit as one
use Rattle.lanes.specs.Lanes.{VisitBy, IsVisit, EachTold, IsAmong, AreLed}
use Rattle.world_core.specs.Visits.{Tells, Leads, VisitsIn}
use Rattle.world_laws.specs.World.{AConnections, AWorld, as_world, connection_of}
use Rattle.world_laws.specs.Doing.{IsWorker, after_visit}
use Rattle.world_laws.specs.Names.{behind, behind_it}
use Rattle.world_laws.specs.Changing.{client_is}
use Rattle.world_laws.specs.Settling.{part_made, acts_go_on}
use Rattle.world_core.specs.Rounds.{machine_of, IsNextFrom, IsLed}
use Rattle.world_core.specs.Runs.{IsListener, IsRun, behind_all, TellsRun}
use Rattle.world_core.proofs.Workers.{stays_behind, left_from, next_is_less}
use Rattle.world_core.proofs.Puts.{VisitsBy}
use Rattle.world_core.proofs.VisitsLemmas.{IsOn, on_goes}

-- ---- one more client

pub run_more : (x : AWorld) (from : List ℕ) (names : List (List ℕ)) (name : List ℕ) → IsRun x from names → IsListener x (behind_all from names) name → IsRun x from (names ++ name ∷ [])
run_more x from [] name run next = (next, tt)
run_more x from (n ∷ names) name run next = (run.0, run_more x (behind n) names name run.1 next)

pub behind_more : (from : List ℕ) (names : List (List ℕ)) (name : List ℕ) → behind_all from (names ++ name ∷ []) ≡ behind name
behind_more from [] name = refl
behind_more from (n ∷ names) name = behind_more (behind n) names name

-- no name is asked for twice
pub run_less : (x : AWorld) (from : List ℕ) (names : List (List ℕ)) → IsRun x from names → left_from (behind_all from names) x.busy x.present ≤ left_from from x.busy x.present
run_less x from [] run = omega arith
run_less x from (n ∷ names) run =
    let first = next_is_less x from n run.0.next in
    let rest = run_less x (behind n) names run.1 in
    omega (arith, first, rest)

worker_in : (x : AWorld) (from : List ℕ) (names : List (List ℕ)) → IsRun x from names → (q : List ℕ) → IsAmong names q → IsWorker x q
worker_in x from [] run q h = elim h [ ]
worker_in x from (n ∷ names) run q h = elim h [ inl e ↦ subst (IsWorker x) (sym e) run.0.next.worker | inr r ↦ worker_in x (behind n) names run.1 q r ]

-- ---- one of them

-- who is told goes through its phases, if it asked for nothing
told_visit : (m : MachineState) (conns mid : AConnections) (name : List ℕ) (now : Bool) → IfSome (at text_cmp conns name) (λ (c : AConnection). asks_nothing c ≡ true) → IsVisit (Tells m) false conns mid name now →
    (news : ANews) × (told : ANews) × VisitsIn m m conns mid news told name (Ok now)
told_visit m conns mid name now asks v = by (at text_cmp conns name) asks v
  where
    by : (o : Option AConnection) → IfSome o (λ (c : AConnection). asks_nothing c ≡ true) → VisitBy o (Tells m) false conns mid name now → (news : ANews) × (told : ANews) × VisitsBy o m m conns mid news told name (Ok now)
    by None asks v = (nothing_told, nothing_told, (v.0, ap (λ (b : Bool). let r : MachineState × (ANews × Result Bool Mem) = (m, (nothing_told, Ok b)) in r) v.1))
    by (Some old) asks v = (v.2.news, v.2.told, (v.0, v.1, v.2.passes asks))

-- the others stay
others_stay : (m : MachineState) (conns mid : AConnections) (name : List ℕ) (now : Bool) → IsVisit (Tells m) false conns mid name now → (q : List ℕ) → is_lt (text_cmp name q) ≡ true → at text_cmp mid q ≡ at text_cmp conns q
others_stay m conns mid name now v q less = by (at text_cmp conns name) v
  where
    other : (b : Bool) → eq_by_cmp text_cmp q name ≡ b → b ≡ false
    other false e = refl
    other true e =
        let same : q ≡ name = key_is name_order q name e in
        cc (sym (subst (λ (k : List ℕ). is_lt (text_cmp name k) ≡ true) same less) ∙ ap is_lt (tied_itself name_order.total name))

    by : (o : Option AConnection) → VisitBy o (Tells m) false conns mid name now → at text_cmp mid q ≡ at text_cmp conns q
    by None v = ap (λ (c : AConnections). at text_cmp c q) v.0
    by (Some old) v =
        ap (λ (c : AConnections). at text_cmp c q) v.1
        ∙ (at-put name_order conns name v.0 q ∙ ap (λ b. cond b (Some v.0) (at text_cmp conns q)) (other (eq_by_cmp text_cmp q name) refl))

-- the same clients come next, whatever the others were told
next_with : (x : AWorld) (put : AConnections) (from name : List ℕ) → IsNextFrom x from name → IsNextFrom (record x { conns = put }) from name
next_with x put from name n = record { behind = n.behind; worker = n.worker; passed = n.passed }

-- ---- all of them

or_last : (now rest flag : Bool) → (rest || (now || flag)) ≡ ((now || rest) || flag)
or_last true true flag = refl
or_last true false flag = refl
or_last false true flag = refl
or_last false false flag = refl

module _ (x : AWorld) where
  told_on : (conns : AConnections) (names : List (List ℕ)) (y : AWorld) (from : List ℕ) (flag : Bool) → IsOn x y from flag → IsRun (record y { conns = conns }) from names →
      ((q : List ℕ) → is_le (text_cmp from q) ≡ true → at text_cmp y.conns q ≡ at text_cmp conns q) → (put : AConnections) (told : Bool) → EachTold (Tells (machine_of y)) names y.conns put told → IsOn x (record y { conns = put }) (behind_all from names) (told || flag)
  told_on conns [] y from flag on run same put told t =
      subst (λ (c : AConnections). IsOn x (record y { conns = c }) from (told || flag)) (sym t.0) (subst (λ b. IsOn x y from (b || flag)) (sym t.1) on)
  told_on conns (n ∷ names) y from flag on run same put told t =
      let m = machine_of y in
      let next : IsNextFrom y from n = next_with (record y { conns = conns }) y.conns from n run.0.next in
      let asks : IfSome (at text_cmp y.conns n) (λ (c : AConnection). asks_nothing c ≡ true) = subst (λ (o : Option AConnection). IfSome o (λ (c : AConnection). asks_nothing c ≡ true)) (sym (same n next.behind)) run.0.asks in
      let v = told_visit m y.conns t.0 n t.1 asks t.3 in
      let here : IsOn x (record y { conns = t.0 }) (behind n) (t.1 || flag) = on_goes x y from n flag on next m t.0 v.0 v.1 t.1 v.2 (behind n) refl in
      let stay : (q : List ℕ) → is_le (text_cmp (behind n) q) ≡ true → at text_cmp t.0 q ≡ at text_cmp conns q =
      λ q le. others_stay m y.conns t.0 n t.1 t.3 q (sym (behind_it n q) ∙ le) ∙ same q (stays_behind from n next.behind q le) in
      let rest : IsOn x (record y { conns = put }) (behind_all (behind n) names) (t.2 || (t.1 || flag)) = told_on conns names (record y { conns = t.0 }) (behind n) (t.1 || flag) here run.1 stay put t.2 t.4 in
      subst (IsOn x (record y { conns = put }) (behind_all (behind n) names)) (or_last t.1 t.2 flag ∙ ap (λ b. b || flag) (sym t.5)) rest

  -- one of them was led on
  one_led : (y : AWorld) → IsLed x y → (name : List ℕ) → IsWorker y name → (old : AConnection) → connection_of y name ≡ Some old → (new : AConnection) (news told : ANews) → one.IsLed (visit (machine_of y) old news) (visit (machine_of y) new told) →
      IsLed x (record y { conns = insert_entry text_cmp y.conns name new })
  one_led y led name worker old is new news told l =
      let p = led.stays in
      let conn : IsConnection y.app name y.history new = subst (λ (k : List ℕ). IsConnection y.app k y.history new) (l.name ∙ (client_is y p name old is).connection.named) l.ready.connection in
      let part = part_made y p name old is new l.acts y.history (sym (ap (λ (s : Side). s.history) l.leads)) (sym (ap (λ (s : Side). s.conn) l.leads)) conn worker in
      record { stays = part.0; leads = acts_go_on (as_world x) (as_world y) (as_world (after_visit y name new y.history)) led.leads part.1 }

  some_led : (Who : List ℕ → Type 0) (steps : AConnections) (y : AWorld) → IsLed x y → ((q : List ℕ) → Who q → IsWorker y q) → (put : AConnections) → AreLed Who (Leads (machine_of y)) steps y.conns put → IsLed x (record y { conns = put })
  some_led Who [] y led workers put l = subst (λ (c : AConnections). IsLed x (record y { conns = c })) (sym l) led
  some_led Who (s ∷ steps) y led workers put l =
      some_led Who steps (record y { conns = insert_entry text_cmp y.conns s.0 s.1 }) (one_led y led s.0 (workers s.0 l.4) l.0 l.1 s.1 l.2.news l.2.told l.2.led) workers put l.3

  module _ (y z : AWorld) (from : List ℕ) (flag : Bool) (on : IsOn x y from flag) where
    pub run_on : (to : List ℕ) (told : Bool) → TellsRun y from z to (Ok told) → IsOn x z to (told || flag)
    run_on to told t =
        let there : IsOn x (record y { conns = t.put }) (behind_all from t.names) (told || flag) = told_on y.conns t.names y from flag on t.run (λ q le. refl) t.put told t.each in
        subst (λ (w : AWorld). IsOn x w to (told || flag)) (sym t.world) (subst (λ (k : List ℕ). IsOn x (record y { conns = t.put }) k (told || flag)) (sym t.ends) there)

    pub run_left : (to : List ℕ) (m : Mem) → TellsRun y from z to (Err m) → IsLed x z
    run_left to m t = subst (λ (w : AWorld). IsLed x w) (sym t.world) (some_led (IsAmong t.names) t.steps y on.led (worker_in y from t.names t.run) t.put t.led)

-- behind a run fewer names are left
pub told_less : (y z : AWorld) (from to : List ℕ) (told : Bool) → TellsRun y from z to (Ok told) → left_from to z.busy z.present ≤ left_from from y.busy y.present
told_less y z from to told t =
    let less = run_less y from t.names t.run in
    subst (λ (w : AWorld). left_from to w.busy w.present ≤ left_from from y.busy y.present) (sym t.world)
    (subst (λ (k : List ℕ). left_from k y.busy y.present ≤ left_from from y.busy y.present) (sym t.ends) less)

pub or_none : (b : Bool) → (b || false) ≡ b
or_none true = refl
or_none false = refl
