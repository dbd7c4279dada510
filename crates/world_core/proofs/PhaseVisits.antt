-- Acts that lead on, one after another.
use Rattle.std.specs.Prelude.{◌≡◌, List, [], ◌∷◌, ◌++◌, Bool, true, false, not, ◌&&◌, refl}
use Rattle.std.proofs.Common.{ap, ap₂, sym, subst, ◌∙◌}
use Rattle.std.proofs.lemmas.Bool.{and_parts}
use Rattle.app_model.specs.App.{App}
use Rattle.connection.specs.store_machine.State.{MachineState}
use Rattle.rounds_model.specs.Rounds.{made, none_of}
use Rattle.connection.specs.world_model.declared.events.Act.{Act}
use Rattle.connection.specs.world_invariant_laws.Links.{IsLinked}
use Rattle.world_rounds_laws.specs.RepeatsLaws.{made-append}
use Rattle.world_rounds_laws.specs.Visits.{Side, act_on}
use Rattle.connection.specs.connection_laws.Connection.{AConnection, as_conn, IsConnection}
use Rattle.world_news_laws.specs.News.{AreNews}
use Rattle.world_core.specs.Visit.{AVisit, side, IsReady, IsLed, IsSame}
use Rattle.world_core.specs.Acting.{IsMade, IsLeft}

pub side_same : (v w : AVisit) → IsSame v w → side v ≡ side w
side_same v w s = ap₂ (λ (m : MachineState) (x : AConnection). let t : Side = record { history = m.history; conn = as_conn x } in t) (sym s.machine) (sym s.client)

pub app_same : (v w : AVisit) → IsSame v w → w.machine.app ≡ v.machine.app
app_same v w s = ap (λ (m : MachineState). m.app) s.machine

pub same_on : (u v w : AVisit) → IsSame u v → IsSame v w → IsSame u w
same_on u v w a b = record { machine = b.machine ∙ a.machine; client = b.client ∙ a.client }

pub same_itself : (v : AVisit) → IsSame v v
same_itself v = record { machine = refl; client = refl }

pub ready_same : (v w : AVisit) → IsReady v → IsSame v w → AreNews w.machine w.news → IsReady w
ready_same v w r s n = record {
  connection =
      subst (λ (m : MachineState). IsConnection m.app w.client.own.name m.history w.client) (sym s.machine)
      (subst (λ (x : AConnection). IsConnection v.machine.app x.own.name v.machine.history x) (sym s.client) r.connection);
  linked = subst (λ (m : MachineState). IsLinked m.app m.history (as_conn w.client)) (sym s.machine) (subst (λ (x : AConnection). IsLinked v.machine.app v.machine.history (as_conn x)) (sym s.client) r.linked);
  news = n;
}

pub led_none : (v : AVisit) → IsReady v → IsLed v v
led_none v r = record { app = refl; name = refl; ready = r; acts = []; leads = refl }

pub led_left : (v w : AVisit) → IsLeft v w → IsLed v w
led_left v w l = record { app = app_same v w l.same; name = ap (λ (x : AConnection). x.own.name) l.same.client; ready = l.ready; acts = []; leads = side_same v w l.same }

pub led_on : (u v w : AVisit) → IsLed u v → IsLed v w → IsLed u w
led_on u v w a b = record {
  app = b.app ∙ a.app;
  name = b.name ∙ a.name;
  ready = b.ready;
  acts = a.acts ++ b.acts;
  leads =
      made-append (act_on u.machine.app) a.acts b.acts (side u)
      ∙ (ap (made (act_on u.machine.app) b.acts) a.leads ∙ subst (λ (app : App). made (act_on app) b.acts (side v) ≡ side w) a.app b.leads);
}

-- behind what led on, an act is made or not
pub led_made : (u v w : AVisit) (a : Act) → IsLed u v → IsMade a v w → IsLed u w
led_made u v w a l m = led_on u v w l m.led

pub led_as_it_was : (u v w : AVisit) → IsLed u v → IsLeft v w → IsLed u w
led_as_it_was u v w l m = led_on u v w l (led_left v w m)

-- ---- where none can be made

pub none_both : {W A : Type 0} (can : W → A → Bool) (as_ bs : List A) (w : W) → none_of can as_ w ≡ true → none_of can bs w ≡ true → none_of can (as_ ++ bs) w ≡ true
none_both can [] bs w e f = f
none_both can (a ∷ as_) bs w e f =
    let both = and_parts (not (can w a)) (none_of can as_ w) e in
    ap (λ b. b && none_of can (as_ ++ bs) w) both.0 ∙ none_both can as_ bs w both.1 f

pub none_one : {W A : Type 0} (can : W → A → Bool) (a : A) (w : W) → can w a ≡ false → none_of can (a ∷ []) w ≡ true
none_one can a w e = ap (λ b. not b && true) e
