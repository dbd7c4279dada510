-- Rounds of what is kept of a world.
use Rattle.ejson_value.specs.declared.memory.Mem.{Mem}
use Rattle.std.specs.Prelude.{◌≡◌, ℕ, List, [], ◌∷◌, ◌++◌, length, Bool, true, false, ◌||◌, Option, None, Some, Result, Ok, Err, IfSome, refl}
use Rattle.std.specs.BTreeMap.{insert_entry}
use Rattle.std.specs.Ordering.{is_le}
use Rattle.std.proofs.Common.{ap, sym, subst, ◌∙◌}
use Rattle.map_model.specs.Maps.{at}
use Rattle.value_model.specs.Order.{text_cmp}
use Rattle.world_core.specs.store_machine.State.{MachineState}
use Rattle.rounds_model.specs.Rounds.{made}
use Rattle.world_core.specs.world_model.declared.events.Event.TheVariants as event
use Rattle.world_core.specs.world_model.World.{World, conn_of}
use Rattle.world_core.specs.world_model.Conn.{Conn}
use Rattle.world_core.specs.world_model.Settle.{order, round, settled}
use Rattle.world_core.specs.world_rounds_laws.Visits.{Side, visits}
use Rattle.world_core.specs.connection_laws.Connection.{AConnection, as_conn, IsConnection}
use Rattle.world_core.specs.multiplexer.Telling.{ANews, nothing_told}
use Rattle.world_core.specs.News.{AreNews}
use Rattle.world_core.specs.NewsLaws.{nothing_is_news}
use Rattle.world_core.specs.Visit.{visit, ArePassed, Passes}
use Rattle.world_core.specs.Visit as one
use Rattle.world_laws.specs.World.{Names, AConnections, AWorld, as_world, connection_of, IsIdle, IsWorld}
use Rattle.world_laws.specs.Doing.{visits_from, IsIdleBefore, IsVisited, after_visit, at_rest, IsStep, ActsLead}
use Rattle.world_laws.specs.Names.{behind}
use Rattle.world_laws.specs.Changing.{client_is, conn_is, conn_there}
use Rattle.world_laws.specs.Promises.{clients_linked}
use Rattle.world_laws.specs.Settling.{round_begins, seen_sorted, round_goes_on, round_is_over, visit_made, part_made, idle_begins, idle_goes_on, idle_ends, nobody_is_visited, round_settles, settling_made, no_acts, acts_go_on, visit_is_acts}
use Rattle.world_core.specs.Visits.{AreReady, CanVisit, VisitsIn}
use Rattle.world_core.specs.Rounds.{machine_of, IsNextFrom, IsNext, IsLed, IsRound, AreRounds, Settles}
use Rattle.world_core.proofs.Puts.{put_same, VisitsBy}

-- ---- one client

-- each client can go through its phases
pub can_visit : (x : AWorld) → IsWorld x → (news : ANews) → AreNews (machine_of x) news → (name : List ℕ) → IfSome (at text_cmp x.conns name) (CanVisit (machine_of x) news name)
can_visit x p news told name = by (at text_cmp x.conns name) refl
  where
    by : (o : Option AConnection) → at text_cmp x.conns name ≡ o → IfSome o (CanVisit (machine_of x) news name)
    by None is = tt
    by (Some c) is =
        let conn : IsConnection x.app name x.history c = (client_is x p name c is).connection in
        (conn.named, record { connection = subst (λ (n : List ℕ). IsConnection x.app n x.history c) (sym conn.named) conn; linked = clients_linked x p name c is; news = told })

-- each client can be told
pub can_be_told : (x : AWorld) → IsWorld x → AreReady (machine_of x) x.conns
can_be_told x p name c is =
    let conn : IsConnection x.app name x.history c = (client_is x p name c is).connection in
    record { connection = subst (λ (n : List ℕ). IsConnection x.app n x.history c) (sym conn.named) conn; linked = clients_linked x p name c is }

-- what is told stays told
pub news_after : (m next : MachineState) (conns put : AConnections) (news told : ANews) (name : List ℕ) → AreNews m news → (r : Result Bool Mem) → VisitsIn m next conns put news told name r → AreNews next told
news_after m next conns put news told name old r v = by (at text_cmp conns name) v
  where
    passes : (c d : AConnection) (r : Result Bool Mem) → Passes order (visit m c news) (visit next d told) r → AreNews next told
    passes c d (Ok flag) t = t.led.ready.news
    passes c d (Err e) t = t.ready.news

    by : (o : Option AConnection) → VisitsBy o m next conns put news told name r → AreNews next told
    by None t = subst (λ (n : ANews). AreNews next n) (sym (ap (λ r. r.1.0) t.1)) (subst (λ (k : MachineState). AreNews k news) (sym (ap (λ r. r.0) t.1)) old)
    by (Some c) t = passes c t.0 r t.2

-- ---- in the world

-- a round has come to this name
pub record IsOn (x y : AWorld) (from : List ℕ) (flag : Bool) : Type 0 where
  pub led : IsLed x y
  pub rest : visits_from from (as_world y) ≡ round (as_world x)
  pub none : flag ≡ false → (as_world y ≡ as_world x) × IsIdleBefore y from

pub is_led : (x : AWorld) → IsWorld x → IsLed x x
is_led x p = record { stays = p; leads = no_acts (as_world x) }

pub on_begins : (x : AWorld) → IsWorld x → IsOn x x [] false
on_begins x p = record { led = is_led x p; rest = round_begins (as_world x) (seen_sorted x p); none = λ e. (refl, idle_begins x p) }

either_false : (a b : Bool) → (a || b) ≡ false → (a ≡ false) × (b ≡ false)
either_false false b e = (refl, e)
either_false true b e = cc e

module _ (x y : AWorld) (from name : List ℕ) (flag : Bool) (on : IsOn x y from flag) (n : IsNextFrom y from name) (next : MachineState) (put : AConnections) where
  abbrev p : IsWorld y
  p = on.led.stays

  abbrev after : AWorld
  after = record y { app = next.app; history = next.history; conns = put }

  -- as it was
  unchanged : next ≡ machine_of y → put ≡ y.conns → after ≡ y
  unchanged e s = λ i. record y { app = (e i).app; history = (e i).history; conns = s i }

  idle_then : (v : AWorld) → as_world v ≡ as_world y → IsIdleBefore y (behind name) → IsIdleBefore v (behind name)
  idle_then v same idle = subst (λ (w : World). (q : List ℕ) → is_le (text_cmp (behind name) q) ≡ false → IfSome (conn_of w q) (IsIdle w.app w.history)) (sym same) idle

  goes_on : visits_from (behind name) (visits name (as_world y)) ≡ round (as_world x)
  goes_on = round_goes_on y p from name n.behind n.passed ∙ on.rest

  nobody : connection_of y name ≡ None → next ≡ machine_of y → put ≡ y.conns → IsOn x after (behind name) flag
  nobody is e s =
      let same = unchanged e s in
      let idle : IfSome (conn_of (as_world y) name) (IsIdle y.app y.history) = subst (λ (o : Option Conn). IfSome o (IsIdle y.app y.history)) (sym (conn_is y name ∙ ap (λ (o : Option AConnection). seen o) is)) tt in
      subst (λ (v : AWorld). IsOn x v (behind name) flag) (sym same) (record {
        led = on.led;
        rest = ap (visits_from (behind name)) (sym (nobody_is_visited y p name is)) ∙ goes_on;
        none = λ f. ((on.none f).0, idle_goes_on y p from name (on.none f).1 n.passed idle);
      })
    where
      seen : Option AConnection → Option Conn
      seen None = None
      seen (Some c) = Some (as_conn c)

  module _ (old : AConnection) (is : connection_of y name ≡ Some old) (new : AConnection) (puts : put ≡ insert_entry text_cmp y.conns name new) (news told : ANews) where
    abbrev v : one.AVisit
    v = visit (machine_of y) old news

    abbrev w : one.AVisit
    w = visit next new told

    -- the world after it
    after_is : next.app ≡ y.app → after ≡ after_visit y name new next.history
    after_is e = λ i. record y { app = e i; history = next.history; conns = puts i }

    connected : one.IsLed v w → IsConnection y.app name next.history new
    connected led =
        let conn = led.ready.connection in
        subst (λ (a : _). IsConnection a name next.history new) led.app (subst (λ (k : List ℕ). IsConnection next.app k next.history new) (led.name ∙ (client_is y p name old is).connection.named) conn)

    visited_so : (now : Bool) → ArePassed order v w now → IsOn x after (behind name) (now || flag)
    visited_so now t =
        let made : IsVisited y name (after_visit y name new next.history) =
        visit_made y p name old is new next.history (sym (ap (λ (s : Side). s.history) t.leads)) (sym (ap (λ (s : Side). s.conn) t.leads)) (connected t.led) n.worker in
        let now_is : IsVisited y name after = subst (λ (u : AWorld). IsVisited y name u) (sym (after_is t.led.app)) made in
        record {
          led = record {
            stays = now_is.stays;
            leads = acts_go_on (as_world x) (as_world y) (as_world after) on.led.leads (subst (ActsLead (as_world y)) (sym now_is.does) (visit_is_acts (as_world y) name (seen_sorted y p)));
          };
          rest = ap (visits_from (behind name)) now_is.does ∙ goes_on;
          none = λ f.
              let both = either_false now flag f in
              let still = t.none both.0 in
              let same : after ≡ y = unchanged still.0.machine (puts ∙ (ap (insert_entry text_cmp y.conns name) still.0.client ∙ put_same y.conns name old p.order is)) in
              let idle : IfSome (conn_of (as_world y) name) (IsIdle y.app y.history) = subst (λ (o : Option Conn). IfSome o (IsIdle y.app y.history)) (sym (conn_there y name old is)) still.1 in
              (ap as_world same ∙ (on.none both.1).0, idle_then after (ap as_world same) (idle_goes_on y p from name (on.none both.1).1 n.passed idle));
        }

    left_so : one.IsLed v w → IsLed x after
    left_so led =
        let part = part_made y p name old is new led.acts next.history (sym (ap (λ (s : Side). s.history) led.leads)) (sym (ap (λ (s : Side). s.conn) led.leads)) (connected led) n.worker in
        subst (λ (u : AWorld). IsLed x u) (sym (after_is led.app)) (record { stays = part.0; leads = acts_go_on (as_world x) (as_world y) (as_world (after_visit y name new next.history)) on.led.leads part.1 })

  pub on_goes : (news told : ANews) (now : Bool) → VisitsIn (machine_of y) next y.conns put news told name (Ok now) → (from' : List ℕ) → from' ≡ name ++ 0 ∷ [] → IsOn x after from' (now || flag)
  on_goes news told now t from' comes = subst (λ (k : List ℕ). IsOn x after k (now || flag)) (sym comes) (by (at text_cmp y.conns name) refl t)
    where
      by : (o : Option AConnection) → at text_cmp y.conns name ≡ o → VisitsBy o (machine_of y) next y.conns put news told name (Ok now) → IsOn x after (behind name) (now || flag)
      by None is t =
          let answered : (let r : Result Bool Mem = Ok now in r) ≡ Ok false = ap (λ r. r.1.1) t.1 in
          let none : now ≡ false = cc answered in
          subst (λ b. IsOn x after (behind name) (b || flag)) (sym none) (nobody is (ap (λ r. r.0) t.1) t.0)
      by (Some old) is t = visited_so old is t.0 t.1 news told now t.2

  pub on_led : (news told : ANews) (now : Bool) → VisitsIn (machine_of y) next y.conns put news told name (Ok now) → IsLed x after
  on_led news told now t = (on_goes news told now t (name ++ 0 ∷ []) refl).led

  pub on_left : (news told : ANews) (m : Mem) → VisitsIn (machine_of y) next y.conns put news told name (Err m) → IsLed x after
  on_left news told m t = by (at text_cmp y.conns name) refl t
    where
      by : (o : Option AConnection) → at text_cmp y.conns name ≡ o → VisitsBy o (machine_of y) next y.conns put news told name (Err m) → IsLed x after
      by None is t = let answered : (let r : Result Bool Mem = Err m in r) ≡ Ok false = ap (λ r. r.1.1) t.1 in cc answered
      by (Some old) is t = left_so old is t.0 t.1 news told t.2

pub on_ends : (x y : AWorld) (from : List ℕ) (flag : Bool) → IsOn x y from flag → IsNext y from None → IsRound x y flag
on_ends x y from flag on passed = record {
  led = on.led;
  does = sym (round_is_over y on.led.stays from passed) ∙ on.rest;
  none = λ f. ((on.none f).0, idle_ends y on.led.stays from (on.none f).1 passed);
}

-- ---- all rounds

pub led_on : (x y z : AWorld) → IsLed x y → IsLed y z → IsLed x z
led_on x y z a b = record { stays = b.stays; leads = acts_go_on (as_world x) (as_world y) (as_world z) a.leads b.leads }

pub record HaveComeTo (x y : AWorld) : Type 0 where
  pub led : IsLed x y
  pub same : settled (as_world y) ≡ settled (as_world x)

pub rounds_begin : (x : AWorld) → IsWorld x → HaveComeTo x x
rounds_begin x p = record { led = is_led x p; same = refl }

pub rounds_go_on : (x y z : AWorld) (made : Bool) → HaveComeTo x y → IsRound y z made → HaveComeTo x z
rounds_go_on x y z made h r = record { led = led_on x y z h.led r.led; same = ap settled r.does ∙ (round_settles (as_world y) h.led.stays.values h.led.stays.reachable ∙ h.same) }

pub rounds_end : (x y z : AWorld) (made : Bool) → HaveComeTo x y → IsRound y z made → made ≡ false → AreRounds x z
rounds_end x y z made h r none = let now = rounds_go_on x y z made h r in record { led = now.led; same = now.same; stuck = (r.none none).1 }

-- ---- the world settles

pub settles : (x y : AWorld) (u : Unit {0}) (busy : Names) (entries : ℕ) → AreRounds x y → busy ≡ [] → entries ≡ length y.history → Settles x (record y { busy = busy; settled = entries }) (Ok u)
settles x y u busy entries r none many =
    let to : record y { busy = busy; settled = entries } ≡ at_rest y = λ i. record y { busy = none i; settled = many i } in
    subst (λ (z : AWorld). IsStep x event.Settle z) (sym to) (settling_made x y r.led.stays r.same r.stuck)

pub no_news : (m : MachineState) (news : ANews) → news ≡ nothing_told → AreNews m news
no_news m news none = subst (λ (n : ANews). AreNews m n) (sym none) (nothing_is_news m)
