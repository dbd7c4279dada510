-- Laws: A round goes from client to client: the phases of a client change that client with its session, and the history.
use Rattle.std.specs.Prelude.{◌≡◌, ℕ, List, [], ◌∷◌, ◌++◌, map, Bool, true, false, cond, not, Option, Some, None, refl}
use Rattle.std.specs.BTreeMap.{insert_entry}
use Rattle.std.specs.Map.{keys_of}
use Rattle.std.specs.Ordering.{eq_by_cmp}
use Rattle.std.proofs.Common.{ap, sym, ◌∙◌}
use Rattle.std.proofs.lemmas.Bool.{and_parts, not-true}
use Rattle.map_model.specs.Maps.{at, set, IsSorted}
use Rattle.map_model.specs.MapLaws.{same_maps, eq_by_cmp-self, at-put, sorted-put, set-at}
use Rattle.value_model.specs.Order.{text_cmp}
use Rattle.ejson_value.specs.Key.{name_order}
use Rattle.app_model.specs.App.{App}
use Rattle.rounds_model.specs.Rounds.{made, through, none_of, none_in}
use Rattle.world_model.specs.declared.events.Act.{Act}
use Rattle.world_model.specs.Conn.{Conn}
use Rattle.world_model.specs.Acts.{does, entries}
use Rattle.world_model.specs.World.{World, Conns, conn_of, acted, done_by, done}
use Rattle.world_model.specs.Settle.{Phase, acts_by, phase, order, phases_of, round}
use Rattle.world_rounds_laws.specs.RepeatsLaws.{through-append}
use Rattle.world_rounds_laws.specs.Visits.{Side, act_on, all_visited, can_on, is_idle, phase_on, visited, visited_by, visits, with_side}

-- ---- maps of clients

put_twice : (conns : Conns) (name : List ℕ) (c d : Conn) → IsSorted text_cmp conns →
    insert_entry text_cmp (insert_entry text_cmp conns name c) name d ≡ insert_entry text_cmp conns name d
put_twice conns name c d sorted =
    let once = insert_entry text_cmp conns name c in
    same_maps name_order (insert_entry text_cmp once name d) (insert_entry text_cmp conns name d)
    (sorted-put name_order once name d (sorted-put name_order conns name c sorted)) (sorted-put name_order conns name d sorted) (λ q.
    at-put name_order once name d q
    ∙ (ap (cond (eq_by_cmp text_cmp q name) (Some d)) (at-put name_order conns name c q)
    ∙ (same_there (eq_by_cmp text_cmp q name) (at text_cmp conns q) ∙ sym (at-put name_order conns name d q))))
  where
    same_there : (b : Bool) (o : Option Conn) → cond b (Some d) (cond b (Some c) o) ≡ cond b (Some d) o
    same_there true o = refl
    same_there false o = refl

put_there : (conns : Conns) (name : List ℕ) (c : Conn) → at text_cmp (insert_entry text_cmp conns name c) name ≡ Some c
put_there conns name c = at-put name_order conns name c name ∙ ap (λ b. cond b (Some c) (at text_cmp conns name)) (eq_by_cmp-self name_order name)

put_same : (conns : Conns) (name : List ℕ) (c : Conn) → IsSorted text_cmp conns → at text_cmp conns name ≡ Some c → insert_entry text_cmp conns name c ≡ conns
put_same conns name c sorted is = ap (set text_cmp conns name) (sym is) ∙ set-at name_order conns name sorted

-- ---- a client's acts

module _ (w : World) (name : List ℕ) (sorted : IsSorted text_cmp w.conns) where
  act_is : (a : Act) (x : Side) → done (name, a) (with_side w name x) ≡ with_side w name (act_on w.app a x)
  act_is a x =
      ap (done_by (with_side w name x) name a) (put_there w.conns name x.conn)
      ∙ elim (can_on w.app x a) as (λ b. cond b (acted (with_side w name x) name a x.conn) (with_side w name x) ≡
      with_side w name (cond b (record { history = x.history ++ entries w.app x.history x.conn a; conn = does w.app x.history x.conn a }) x)) [
        | true ↦ ap (λ (conns : Conns). record w { history = x.history ++ entries w.app x.history x.conn a; conns = conns })
            (put_twice w.conns name x.conn (does w.app x.history x.conn a) sorted)
        | false ↦ refl
      ]

  acts_are : (acts : List Act) (x : Side) → made done (map (λ a. (name, a)) acts) (with_side w name x) ≡ with_side w name (made (act_on w.app) acts x)
  acts_are [] x = refl
  acts_are (a ∷ acts) x = ap (made done (map (λ a. (name, a)) acts)) (act_is a x) ∙ acts_are acts (act_on w.app a x)

  phases_are : (ps : List Phase) (x : Side) →
      through done (map (phase name) ps) (with_side w name x) ≡ with_side w name (through (act_on w.app) (map (phase_on w.app) ps) x)
  phases_are [] x = refl
  phases_are (p ∷ ps) x =
      let v = with_side w name x in
      let acts : acts_by v p (conn_of v name) ≡ phase_on w.app p x = ap (acts_by v p) (put_there w.conns name x.conn) in
      ap (λ (acts : List Act). through done (map (phase name) ps) (made done (map (λ a. (name, a)) acts) v)) acts
      ∙ (ap (through done (map (phase name) ps)) (acts_are (phase_on w.app p x) x) ∙ phases_are ps (made (act_on w.app) (phase_on w.app p x) x))

  -- a client that is there
  pub visit_is : (c : Conn) → conn_of w name ≡ Some c →
      through done (map (phase name) order) w ≡ with_side w name (visited w.app (record { history = w.history; conn = c }))
  visit_is c is =
      ap (λ (conns : Conns). through done (map (phase name) order) (record w { conns = conns })) (sym (put_same w.conns name c sorted is))
      ∙ phases_are order (record { history = w.history; conn = c })

-- one that isn't there
none_made : (w : World) (name : List ℕ) (ps : List Phase) → conn_of w name ≡ None → through done (map (phase name) ps) w ≡ w
none_made w name [] none = refl
none_made w name (p ∷ ps) none =
    ap (λ (o : Option Conn). through done (map (phase name) ps) (made done (map (λ a. (name, a)) (acts_by w p o)) w)) none
    ∙ none_made w name ps none

visits_are : (w : World) (name : List ℕ) → IsSorted text_cmp w.conns → through done (map (phase name) order) w ≡ visits name w
visits_are w name sorted = by (conn_of w name) refl
  where
    by : (o : Option Conn) → conn_of w name ≡ o → through done (map (phase name) order) w ≡ visited_by w name o
    by None e = none_made w name order e
    by (Some c) e = visit_is w name sorted c e

pub visits_sorted : (w : World) (name : List ℕ) → IsSorted text_cmp w.conns → IsSorted text_cmp (visits name w).conns
visits_sorted w name sorted = by (conn_of w name)
  where
    by : (o : Option Conn) → IsSorted text_cmp (visited_by w name o).conns
    by None = sorted
    by (Some c) = sorted-put name_order w.conns name (visited w.app (record { history = w.history; conn = c })).conn sorted

-- ---- a round

all_are : (names : List (List ℕ)) (w : World) → IsSorted text_cmp w.conns → through done (phases_of names) w ≡ all_visited names w
all_are [] w sorted = refl
all_are (name ∷ names) w sorted =
    through-append done (map (phase name) order) (phases_of names) w
    ∙ (ap (through done (phases_of names)) (visits_are w name sorted) ∙ all_are names (visits name w) (visits_sorted w name sorted))

-- each client goes through its phases, by name
pub round_is : (w : World) → IsSorted text_cmp w.conns → round w ≡ all_visited (keys_of w.conns) w
round_is w sorted = all_are (keys_of w.conns) w sorted

-- ---- a client that has nothing to do

pub act_none : (app : App) (a : Act) (x : Side) → can_on app x a ≡ false → act_on app a x ≡ x
act_none app a x off = ap (λ b. cond b (record { history = x.history ++ entries app x.history x.conn a; conn = does app x.history x.conn a }) x) off

acts_none : (app : App) (acts : List Act) (x : Side) → none_of (can_on app) acts x ≡ true → made (act_on app) acts x ≡ x
acts_none app [] x none = refl
acts_none app (a ∷ acts) x none =
    let both = and_parts (not (can_on app x a)) (none_of (can_on app) acts x) none in
    ap (made (act_on app) acts) (act_none app a x (not-true (can_on app x a) both.0)) ∙ acts_none app acts x both.1

phases_none : (app : App) (ps : List Phase) (x : Side) → none_in (can_on app) (map (phase_on app) ps) x ≡ true →
    through (act_on app) (map (phase_on app) ps) x ≡ x
phases_none app [] x none = refl
phases_none app (p ∷ ps) x none =
    let both = and_parts (none_of (can_on app) (phase_on app p x) x) (none_in (can_on app) (map (phase_on app) ps) x) none in
    ap (through (act_on app) (map (phase_on app) ps)) (acts_none app (phase_on app p x) x both.0) ∙ phases_none app ps x both.1

pub idle_visited : (app : App) (x : Side) → is_idle app x ≡ true → visited app x ≡ x
idle_visited app x none = phases_none app order x none

-- it may be left out of the round
pub idle_left : (w : World) (name : List ℕ) (c : Conn) → IsSorted text_cmp w.conns → conn_of w name ≡ Some c →
    is_idle w.app (record { history = w.history; conn = c }) ≡ true → visits name w ≡ w
idle_left w name c sorted is none =
    ap (visited_by w name) is
    ∙ (ap (with_side w name) (idle_visited w.app (record { history = w.history; conn = c }) none)
    ∙ ap (λ (conns : Conns). record w { conns = conns }) (put_same w.conns name c sorted is))
