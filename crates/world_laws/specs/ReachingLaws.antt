-- Laws: An event leads from a world that events lead to, to such a world, and so do an act and a client's part of a round.
use Rattle.std.specs.Prelude.{◌≡◌, ℕ, List, [], ◌∷◌, ◌++◌, map, true, false, cond, Option, Some, None, option_and_then, refl}
use Rattle.std.specs.Ordering.{eq_by_cmp}
use Rattle.std.specs.BTreeMap.{insert_entry}
use Rattle.std.proofs.Common.{ap, sym, subst, ◌∙◌}
use Rattle.map_model.specs.Maps.{at, set, IsSorted}
use Rattle.map_model.specs.MapLaws.{at-put, sorted-put, set-at, same_maps, eq_by_cmp-self}
use Rattle.value_model.specs.Order.{text_cmp}
use Rattle.ejson_value.specs.Key.{name_order}
use Rattle.app_model.specs.App.{App}
use Rattle.rounds_model.specs.Rounds.{made, through}
use Rattle.headline.specs.world_model.declared.events.Act.{Act}
use Rattle.headline.specs.world_model.declared.events.Event.{Event}
use Rattle.headline.specs.world_model.declared.events.Event.TheVariants as event
use Rattle.headline.specs.world_model.Conn.{Conn}
use Rattle.headline.specs.world_model.Acts.{does, entries}
use Rattle.headline.specs.world_model.World.{World, start, conn_of, acted, done_by, done}
use Rattle.headline.specs.world_model.Settle.{order}
use Rattle.headline.specs.world_model.Events.{done_if, step, run, IsEvent, AreEvents, Reachable}
use Rattle.headline.specs.WorldsLaws.{worlds_hold}
use Rattle.headline.specs.Tidy.{Stands}
use Rattle.world_rounds_laws.specs.Visits.{Side, can_on, act_on, phase_on, with_side, visited_by, visits}
use Rattle.world_laws.specs.Reaching.{Comes}

run_more : (w : World) (events : List Event) (e : Event) → run w (events ++ e ∷ []) ≡ step (run w events) e
run_more w [] e = refl
run_more w (f ∷ events) e = run_more (step w f) events e

events_more : (events : List Event) (e : Event) → AreEvents events → IsEvent e → AreEvents (events ++ e ∷ [])
events_more [] e all good = (good, tt)
events_more (f ∷ events) e all good = (all.0, events_more events e all.1 good)

comes_app : (app : App) (w : World) → Comes app w → w.app ≡ app
comes_app app w c = subst (λ (v : World). v.app ≡ app) c.2 (worlds_hold app c.0 c.1).history.same

step_comes : (app : App) (w : World) → Comes app w → (e : Event) → IsEvent e → Comes app (step w e)
step_comes app w c e good = (c.0 ++ e ∷ [], events_more c.0 e c.1 good, run_more (start app) c.0 e ∙ ap (λ (v : World). step v e) c.2)

-- events lead on
pub step_reaches : (w : World) → Reachable w → (e : Event) → IsEvent e → Reachable (step w e)
step_reaches w r e good = let c = step_comes w.app w r e good in subst (λ (app : App). Comes app (step w e)) (sym (comes_app w.app (step w e) c)) c

pub start_reaches : (app : App) → Reachable (start app)
start_reaches app = ([], tt, refl)

-- what is so of it
pub reached_stands : (w : World) → Reachable w → Stands w.app w
reached_stands w r = subst (Stands w.app) r.2 (worlds_hold w.app r.0 r.1)

act_is_event : (w : World) (name : List ℕ) (a : Act) → step w (event.Do name a) ≡ done (name, a) w
act_is_event w name a = by (conn_of w name) refl
  where
    by : (o : Option Conn) → conn_of w name ≡ o → step w (event.Do name a) ≡ done (name, a) w
    by None e = ap (λ (o : Option Conn). done_if w name (option_and_then (λ (c : Conn). Some a) o)) e ∙ sym (ap (done_by w name a) e)
    by (Some c) e = ap (λ (o : Option Conn). done_if w name (option_and_then (λ (c : Conn). Some a) o)) e

pub done_reaches : (e : List ℕ × Act) (w : World) → Reachable w → Reachable (done e w)
done_reaches e w r = subst Reachable (act_is_event w e.0 e.1) (step_reaches w r (event.Do e.0 e.1) tt)

-- ---- a client's part of a round

module _ (w : World) (name : List ℕ) (sorted : IsSorted text_cmp w.conns) where
  put_again : (c d : Conn) → insert_entry text_cmp (insert_entry text_cmp w.conns name c) name d ≡ insert_entry text_cmp w.conns name d
  put_again c d =
      let once = insert_entry text_cmp w.conns name c in
      same_maps name_order (insert_entry text_cmp once name d) (insert_entry text_cmp w.conns name d)
      (sorted-put name_order once name d (sorted-put name_order w.conns name c sorted)) (sorted-put name_order w.conns name d sorted)
      (λ q.
      at-put name_order once name d q
      ∙ (ap (cond (eq_by_cmp text_cmp q name) (Some d)) (at-put name_order w.conns name c q)
      ∙ (elim (eq_by_cmp text_cmp q name)
      as (λ b. cond b (Some d) (cond b (Some c) (at text_cmp w.conns q)) ≡ cond b (Some d) (at text_cmp w.conns q)) [ true ↦ refl | false ↦ refl ]
      ∙ sym (at-put name_order w.conns name d q))))

  conn_put : (x : Side) → conn_of (with_side w name x) name ≡ Some x.conn
  conn_put x = at-put name_order w.conns name x.conn name ∙ ap (λ b. cond b (Some x.conn) (at text_cmp w.conns name)) (eq_by_cmp-self name_order name)

  abbrev made_on : Act → Side → Side
  made_on a x = record { history = x.history ++ entries w.app x.history x.conn a; conn = does w.app x.history x.conn a }

  acted_put : (a : Act) (x : Side) → acted (with_side w name x) name a x.conn ≡ with_side w name (made_on a x)
  acted_put a x = λ j. record w { history = x.history ++ entries w.app x.history x.conn a; conns = put_again x.conn (does w.app x.history x.conn a) j }

  done_put : (a : Act) (x : Side) → done (name, a) (with_side w name x) ≡ with_side w name (act_on w.app a x)
  done_put a x =
      ap (done_by (with_side w name x) name a) (conn_put x)
      ∙ elim (can_on w.app x a) as
      (λ b. cond b (acted (with_side w name x) name a x.conn) (with_side w name x) ≡ with_side w name (cond b (made_on a x) x))
      [ true ↦ acted_put a x | false ↦ refl ]

  -- the client's acts, in the world
  pub made_put : (acts : List Act) (x : Side) → made done (map (λ a. (name, a)) acts) (with_side w name x) ≡ with_side w name (made (act_on w.app) acts x)
  made_put [] x = refl
  made_put (a ∷ acts) x = ap (made done (map (λ a. (name, a)) acts)) (done_put a x) ∙ made_put acts (act_on w.app a x)

  pub made_reaches : (acts : List Act) (x : Side) → Reachable (with_side w name x) → Reachable (with_side w name (made (act_on w.app) acts x))
  made_reaches [] x r = r
  made_reaches (a ∷ acts) x r = made_reaches acts (act_on w.app a x) (subst Reachable (done_put a x) (done_reaches (name, a) (with_side w name x) r))

  through_reaches : (ps : List (Side → List Act)) (x : Side) → Reachable (with_side w name x) → Reachable (with_side w name (through (act_on w.app) ps x))
  through_reaches [] x r = r
  through_reaches (p ∷ ps) x r = through_reaches ps (made (act_on w.app) (p x) x) (made_reaches (p x) x r)

  pub put_itself : (c : Conn) → conn_of w name ≡ Some c → with_side w name (record { history = w.history; conn = c }) ≡ w
  put_itself c is =
      let same : insert_entry text_cmp w.conns name c ≡ w.conns = ap (set text_cmp w.conns name) (sym is) ∙ set-at name_order w.conns name sorted in
      λ j. record w { conns = same j }

  visited_reaches : Reachable w → (o : Option Conn) → conn_of w name ≡ o → Reachable (visited_by w name o)
  visited_reaches r None is = r
  visited_reaches r (Some c) is =
      through_reaches (map (phase_on w.app) order) (record { history = w.history; conn = c }) (subst Reachable (sym (put_itself c is)) r)

  pub visit_reaches : Reachable w → Reachable (visits name w)
  visit_reaches r = visited_reaches r (conn_of w name) refl
