-- A world settles as the code does it: by name, those that may have something to do, in rounds until nothing is made.
use Rattle.std.specs.Prelude.{◌≡◌, ◌⊎◌, ℕ, zero, suc, List, [], ◌∷◌, ◌++◌, length, map, Bool, true, false, cond, not, ◌&&◌, Option, Some, None}
use Rattle.std.specs.Prelude.{is_some, option_map, IfSome, refl}
use Rattle.std.specs.List.{list_all, list_any}
use Rattle.std.specs.Map.{keys_of}
use Rattle.std.specs.declared.cmp.Ordering.{Ordering}
use Rattle.std.specs.declared.cmp.Ordering.TheVariants.{Less, Equal, Greater}
use Rattle.std.specs.Ordering.{eq_by_cmp, is_le, is_lt, ordering_reverse}
use Rattle.std.specs.BTreeMap.{insert_entry}
use Rattle.std.proofs.Common.{ap, sym, subst, ◌∙◌, arith, inl, inr}
use Rattle.std.proofs.lemmas.List.{length-append}
use Rattle.std.proofs.lemmas.Bool.{and_parts}
use Rattle.map_model.specs.Maps.{at, IsSorted}
use Rattle.map_model.specs.MapLaws.{at-put, sorted-nil, sorted-put, key_is, is_some-at}
use Rattle.value_model.specs.Order.{text_cmp}
use Rattle.ejson_value.specs.Key.{name_order}
use Rattle.headline.specs.history_model.declared.entry.Entry.{Entry}
use Rattle.rounds_model.specs.Tower.{often}
use Rattle.rounds_model.specs.TowerLaws.{tower_makes}
use Rattle.rounds_model.specs.Rounds.{made, through, none_of, none_in}
use Rattle.headline.specs.world_values_laws.Values.{HasValues}
use Rattle.world_rounds_laws.specs.RepeatsLaws.{made-append}
use Rattle.headline.specs.world_model.declared.events.Act.{Act}
use Rattle.headline.specs.world_model.declared.events.Event.TheVariants as event
use Rattle.headline.specs.world_model.Store.{programs}
use Rattle.headline.specs.world_model.Conn.{Conn}
use Rattle.headline.specs.world_model.Acts.{can}
use Rattle.headline.specs.world_model.World.{World, conn_of, done, can_by, can_in}
use Rattle.headline.specs.world_model.Settle.{Phase, acts_by, phase, order, phases_of, round, is_stuck, measures, settled}
use Rattle.headline.specs.world_model.Events.{Reachable}
use Rattle.headline.specs.world_invariant_laws.Lift.{round_holds}
use Rattle.headline.specs.world_invariant_laws.Links.{IsLinked}
use Rattle.headline.specs.Worlds.{IsSound}
use Rattle.headline.specs.WorldsLaws.{sound_kept}
use Rattle.headline.specs.StuckLaws.{none_of_phase}
use Rattle.headline.specs.Tidy.{Stands}
use Rattle.headline.specs.Settling as settling
use Rattle.connection_laws.specs.Connection.{AConnection, as_conn, IsConnection}
use Rattle.world_laws.specs.World.{AWorld, as_world, connection_of, is_among, IsIdle, is_there, IsClient, IsWorld}
use Rattle.world_rounds_laws.specs.Visits.{Side, can_on, act_on, phase_on, with_side, visited as client_visited, visited_by, visits, all_visited}
use Rattle.world_rounds_laws.specs.VisitsLaws.{round_is, idle_left}
use Rattle.world_laws.specs.Idle.{idle_from}
use Rattle.world_laws.specs.Names.{names_from, behind, behind_it, empty_first, visited, next_comes, none_comes, all_come, same_keys, sorted_mapped}
use Rattle.world_laws.specs.ReachingLaws.{reached_stands, put_itself, made_put, made_reaches, visit_reaches}
use Rattle.world_laws.specs.Changing.{conn_is, conn_there, put_seen, client_is, numbers_differ, change_stays}
use Rattle.world_laws.specs.Making.{present_stays}
use Rattle.world_laws.specs.Growing.{Grows}
use Rattle.world_laws.specs.GrowingLaws.{made_grows, visit_grows}
use Rattle.world_laws.specs.Doing.{visits_from, IsPassed, IsIdleBefore, after_visit, IsWorker, IsVisited, at_rest, IsStep, ActsLead}

-- ---- a round

visits_same : (names : List (List ℕ)) (w : World) → visited visits names w ≡ all_visited names w
visits_same [] w = refl
visits_same (name ∷ names) w = visits_same names (visits name w)

-- a round begins at the empty text
pub round_begins : (w : World) → IsSorted text_cmp w.conns → visits_from [] w ≡ round w
round_begins w sorted = all_come visits (keys_of w.conns) w ∙ (visits_same (keys_of w.conns) w ∙ sym (round_is w sorted))

module _ (x : AWorld) (p : IsWorld x) where
  pub seen_sorted : IsSorted text_cmp (as_world x).conns
  seen_sorted = sorted_mapped as_conn x.conns p.order

  passed_one : (q : List ℕ) (o : Option AConnection) → connection_of x q ≡ o → IsPassed x q → IfSome (option_map as_conn o) (IsIdle x.app x.history)
  passed_one q None is e = tt
  passed_one q (Some c) is e = (client_is x p q c is).rests e.0 (why e.1)
    where
      why : (length x.history ≡ x.settled) ⊎ (is_among x.present q ≡ false) → (length x.history ≡ x.settled) ⊎ (c.is_dropped ≡ true)
      why (inl same) = inl same
      why (inr gone) = inr (dropped c.is_dropped (sym (p.present.1 q ∙ ap is_there is) ∙ gone))
        where
          dropped : (b : Bool) → not b ≡ false → b ≡ true
          dropped true e = refl
          dropped false e = cc e

  -- who is passed over has nothing to do
  pub passed_idle : (q : List ℕ) → IsPassed x q → IfSome (conn_of (as_world x) q) (IsIdle x.app x.history)
  passed_idle q e = subst (λ (o : Option Conn). IfSome o (IsIdle x.app x.history)) (sym (conn_is x q)) (passed_one q (connection_of x q) refl e)

  left_out : (q : List ℕ) (o : Option Conn) → conn_of (as_world x) q ≡ o → IfSome o (IsIdle x.app x.history) → visits q (as_world x) ≡ as_world x
  left_out q None is idle = ap (visited_by (as_world x) q) is
  left_out q (Some c) is idle = idle_left (as_world x) q c seen_sorted is idle

  passed_stays : (q : List ℕ) → IsPassed x q → visits q (as_world x) ≡ as_world x
  passed_stays q e = left_out q (conn_of (as_world x) q) refl (passed_idle q e)

  nobody_visited : (name : List ℕ) → conn_of (as_world x) name ≡ None → visits name (as_world x) ≡ as_world x
  nobody_visited name e = left_out name None e tt

  comes : (name : List ℕ) (o : Option Conn) → conn_of (as_world x) name ≡ o →
      (list_any (eq_by_cmp text_cmp name) (keys_of (as_world x).conns) ≡ true) ⊎ (visits name (as_world x) ≡ as_world x)
  comes name None e = inr (nobody_visited name e)
  comes name (Some c) e = inl (sym (is_some-at text_cmp (as_world x).conns name) ∙ ap is_some e)

  -- a visit leaves who there is
  keys_stay : (name : List ℕ) (o : Option Conn) → conn_of (as_world x) name ≡ o → keys_of (visits name (as_world x)).conns ≡ keys_of (as_world x).conns
  keys_stay name None e = ap (λ (w : World). keys_of w.conns) (nobody_visited name e)
  keys_stay name (Some c) e =
      let w = as_world x in
      let s = client_visited w.app (record { history = w.history; conn = c }) in
      ap (λ (v : World). keys_of v.conns) (ap (visited_by w name) e)
      ∙ same_keys (insert_entry text_cmp w.conns name s.conn) w.conns (sorted-put name_order w.conns name s.conn seen_sorted) seen_sorted
      (λ q. ap is_some (at-put name_order w.conns name s.conn q) ∙ by q s.conn (eq_by_cmp text_cmp q name) refl)
    where
      by : (q : List ℕ) (d : Conn) (b : Bool) → eq_by_cmp text_cmp q name ≡ b →
          is_some (cond b (Some d) (at text_cmp (as_world x).conns q)) ≡ is_some (at text_cmp (as_world x).conns q)
      by q d true is = sym (ap (λ (n : List ℕ). is_some (at text_cmp (as_world x).conns n)) (key_is name_order q name is) ∙ ap is_some e)
      by q d false is = refl

  -- The next one is visited, where all between are passed over; what is left of the round then leads where it led before.
  pub round_goes_on : (from name : List ℕ) → is_le (text_cmp from name) ≡ true →
      ((q : List ℕ) → is_le (text_cmp from q) ≡ true → is_lt (text_cmp q name) ≡ true → IsPassed x q) →
      visits_from (behind name) (visits name (as_world x)) ≡ visits_from from (as_world x)
  round_goes_on from name le between =
      let w = as_world x in
      ap (λ (names : List (List ℕ)). visited visits (names_from (behind name) names) (visits name w)) (keys_stay name (conn_of w name) refl)
      ∙ sym (next_comes visits from name le (keys_of w.conns) seen_sorted w (λ q a b. passed_stays q (between q a b)) (comes name (conn_of w name) refl))

  -- and the round is over where all that are left are passed over
  pub round_is_over : (from : List ℕ) → ((q : List ℕ) → is_le (text_cmp from q) ≡ true → IsPassed x q) → visits_from from (as_world x) ≡ as_world x
  round_is_over from all = none_comes visits from (keys_of (as_world x).conns) (as_world x) (λ q a. passed_stays q (all q a))

-- ---- a visit

module _ (x : AWorld) (p : IsWorld x) (name : List ℕ) (old : AConnection) (is : connection_of x name ≡ Some old) (new : AConnection) where
  -- the client over the history
  abbrev alone : Side
  alone = record { history = x.history; conn = as_conn old }

  -- where it goes on so
  module _ (t : Side) (g : Grows alone t) (same : as_conn new ≡ t.conn) where
    now_is : as_world (after_visit x name new (x.history ++ g.more)) ≡ with_side (as_world x) name t
    now_is = λ j. record
        (as_world x) { history = sym g.behind j; conns = (put_seen x.conns name new p.order ∙ ap (insert_entry text_cmp (as_world x).conns name) same) j }

    new_rests : IsWorker x name → is_among x.busy name ≡ false → (length (x.history ++ g.more) ≡ x.settled) ⊎ (new.is_dropped ≡ true) →
        IsIdle x.app (x.history ++ g.more) (as_conn new)
    new_rests (inl busy) free why = cc (sym busy ∙ free)
    new_rests (inr there) free (inl many) =
        let within = p.settled in absurd (there.1 (omega (arith, many, within, length-append x.history g.more)))
    new_rests (inr there) free (inr gone) =
        let here : not old.is_dropped ≡ true = sym (p.present.1 name ∙ ap is_there is) ∙ there.0 in
        let before : new.is_dropped ≡ old.is_dropped = ap (λ (c : Conn). c.is_dropped) same ∙ g.there in
        cc (sym here ∙ ap not (sym before ∙ gone))

    goes_so : (history : List Entry) → history ≡ t.history → Reachable (with_side (as_world x) name t) → IsConnection x.app name history new → IsWorker x name →
        IsWorld (after_visit x name new history) × (as_world (after_visit x name new history) ≡ with_side (as_world x) name t)
    goes_so history grown reach conn worker =
        let eh : history ≡ x.history ++ g.more = grown ∙ g.behind in
        subst (λ (h : List Entry). IsWorld (after_visit x name new h) × (as_world (after_visit x name new h) ≡ with_side (as_world x) name t)) (sym eh) (
          change_stays x p name new g.more x.opened x.present x.busy (subst (λ (w : World). Reachable w) (sym now_is) reach)
              (record { connection = subst (λ (h : List Entry). IsConnection x.app name h new) eh conn; rests = new_rests worker })
              (λ q c isc differ. g.apart c.session.carried.number (numbers_differ x p q name c old isc is differ))
              (p.present.0, present_stays x p name old new is (ap (λ (c : Conn). c.is_dropped) same ∙ g.there)) p.busy (λ q free. free),
          now_is,
        )

  seen : visits name (as_world x) ≡ with_side (as_world x) name (client_visited x.app alone)
  seen = ap (visited_by (as_world x) name) (conn_there x name old is)

  -- A client that goes through its phases makes its part of the round.
  pub visit_made : (history : List Entry) → history ≡ (client_visited x.app alone).history → as_conn new ≡ (client_visited x.app alone).conn →
      IsConnection x.app name history new → IsWorker x name →
      IsVisited x name (after_visit x name new history)
  visit_made history grown same conn worker =
      let reach : Reachable (with_side (as_world x) name (client_visited x.app alone)) =
      subst (λ (w : World). Reachable w) seen (visit_reaches (as_world x) name (seen_sorted x p) p.reachable) in
      let r = goes_so (client_visited x.app alone) (visit_grows x.app alone) same history grown reach conn worker in
      record { stays = r.0; does = r.1 ∙ sym seen }

  itself : with_side (as_world x) name alone ≡ as_world x
  itself = put_itself (as_world x) name (seen_sorted x p) (as_conn old) (conn_there x name old is)

  -- One that makes some acts alone makes these.
  pub part_made : (acts : List Act) (history : List Entry) → history ≡ (made (act_on x.app) acts alone).history →
      as_conn new ≡ (made (act_on x.app) acts alone).conn → IsConnection x.app name history new → IsWorker x name →
      IsWorld (after_visit x name new history) × ActsLead (as_world x) (as_world (after_visit x name new history))
  part_made acts history grown same conn worker =
      let t = made (act_on x.app) acts alone in
      let reach = made_reaches (as_world x) name (seen_sorted x p) acts alone (subst (λ (w : World). Reachable w) (sym itself) p.reachable) in
      let r = goes_so t (made_grows x.app acts alone) same history grown reach conn worker in (
        r.0,
        (
          map (λ a. (name, a)) acts,
          ap (made done (map (λ a. (name, a)) acts)) (sym itself) ∙ (made_put (as_world x) name (seen_sorted x p) acts alone ∙ sym r.1),
        ),
      )

-- ---- a world in which nobody has anything to do

module _ (w : World) where
  acts_stuck : (name : List ℕ) (c : Conn) → conn_of w name ≡ Some c → (acts : List Act) → list_all (λ a. not (can w.app w.history c a)) acts ≡ true →
      list_all (λ e. not (can_in w e)) (map (λ a. (name, a)) acts) ≡ true
  acts_stuck name c is [] e = refl
  acts_stuck name c is (a ∷ acts) e =
      let parts = and_parts (not (can w.app w.history c a)) (list_all (λ a. not (can w.app w.history c a)) acts) e in
      ap (λ (o : Option Conn). not (can_by w a o) && list_all (λ e. not (can_in w e)) (map (λ a. (name, a)) acts)) is
      ∙ (ap (λ b. b && list_all (λ e. not (can_in w e)) (map (λ a. (name, a)) acts)) parts.0 ∙ acts_stuck name c is acts parts.1)

  -- the phases of one client
  phases_stuck : (name : List ℕ) (c : Conn) → conn_of w name ≡ Some c → (more : List (World → List (List ℕ × Act))) → none_in can_in more w ≡ true →
      (ps : List Phase) →
      none_in (can_on w.app) (map (phase_on w.app) ps) (record { history = w.history; conn = c }) ≡ true → none_in can_in (map (phase name) ps ++ more) w ≡ true
  phases_stuck name c is more rest [] idle = rest
  phases_stuck name c is more rest (q ∷ ps) idle =
      let x : Side = record { history = w.history; conn = c } in
      let parts = and_parts (none_of (can_on w.app) (phase_on w.app q x) x) (none_in (can_on w.app) (map (phase_on w.app) ps) x) idle in
      ap (λ (o : Option Conn). none_of can_in (map (λ a. (name, a)) (acts_by w q o)) w && none_in can_in (map (phase name) ps ++ more) w) is
      ∙ (ap (λ b. b && none_in can_in (map (phase name) ps ++ more) w) (acts_stuck name c is (phase_on w.app q x) parts.0)
      ∙ phases_stuck name c is more rest ps parts.1)

  nobody_stuck : (name : List ℕ) → conn_of w name ≡ None → (more : List (World → List (List ℕ × Act))) → none_in can_in more w ≡ true →
      (ps : List Phase) → none_in can_in (map (phase name) ps ++ more) w ≡ true
  nobody_stuck name is more rest [] = rest
  nobody_stuck name is more rest (q ∷ ps) =
      ap (λ (o : Option Conn). none_of can_in (map (λ a. (name, a)) (acts_by w q o)) w && none_in can_in (map (phase name) ps ++ more) w) is
      ∙ nobody_stuck name is more rest ps

  one_stuck : (name : List ℕ) (o : Option Conn) → conn_of w name ≡ o → IfSome o (IsIdle w.app w.history) → (more : List (World → List (List ℕ × Act))) →
      none_in can_in more w ≡ true → none_in can_in (map (phase name) order ++ more) w ≡ true
  one_stuck name None is idle more rest = nobody_stuck name is more rest order
  one_stuck name (Some c) is idle more rest = phases_stuck name c is more rest order idle

  names_stuck : (names : List (List ℕ)) → ((q : List ℕ) → IfSome (conn_of w q) (IsIdle w.app w.history)) → none_in can_in (phases_of names) w ≡ true
  names_stuck [] idle = refl
  names_stuck (name ∷ names) idle = one_stuck name (conn_of w name) refl (idle name) (phases_of names) (names_stuck names idle)

  pub idle_is_stuck : ((q : List ℕ) → IfSome (conn_of w q) (IsIdle w.app w.history)) → is_stuck w ≡ true
  idle_is_stuck idle = names_stuck (keys_of w.conns) idle

-- ---- a round that makes nothing

module _ (x : AWorld) (p : IsWorld x) where
  pub idle_begins : IsIdleBefore x []
  idle_begins q e = cc (sym (empty_first q) ∙ e)

  -- one more has nothing to do, and those between are passed over
  pub idle_goes_on : (from name : List ℕ) → IsIdleBefore x from →
      ((q : List ℕ) → is_le (text_cmp from q) ≡ true → is_lt (text_cmp q name) ≡ true → IsPassed x q) →
      IfSome (conn_of (as_world x) name) (IsIdle x.app x.history) → IsIdleBefore x (behind name)
  idle_goes_on from name before between own q e = by (is_le (text_cmp from q)) refl (text_cmp q name) refl
    where
      later : is_lt (text_cmp name q) ≡ false
      later = sym (behind_it name q) ∙ e

      by : (b : Bool) → is_le (text_cmp from q) ≡ b → (o : Ordering) → text_cmp q name ≡ o → IfSome (conn_of (as_world x) q) (IsIdle x.app x.history)
      by false f o s = before q f
      by true f Less s = passed_idle x p q (between q f (ap is_lt s))
      by true f Equal s = subst (λ (n : List ℕ). IfSome (conn_of (as_world x) n) (IsIdle x.app x.history)) (sym (name_order.exact q name s)) own
      by true f Greater s =
          let less : is_lt (text_cmp name q) ≡ true = ap is_lt (name_order.total.antisymm name q ∙ ap ordering_reverse s) in cc (sym less ∙ later)

  -- nobody is left
  pub idle_ends : (from : List ℕ) → IsIdleBefore x from → ((q : List ℕ) → is_le (text_cmp from q) ≡ true → IsPassed x q) → is_stuck (as_world x) ≡ true
  idle_ends from before rest = idle_is_stuck (as_world x) each
    where
      by : (q : List ℕ) (b : Bool) → is_le (text_cmp from q) ≡ b → IfSome (conn_of (as_world x) q) (IsIdle x.app x.history)
      by q false f = before q f
      by q true f = passed_idle x p q (rest q f)

      each : (q : List ℕ) → IfSome (conn_of (as_world x) q) (IsIdle x.app x.history)
      each q = by q (is_le (text_cmp from q)) refl

  -- nobody of this name is visited
  pub nobody_is_visited : (name : List ℕ) → connection_of x name ≡ None → visits name (as_world x) ≡ as_world x
  nobody_is_visited name e = ap (visited_by (as_world x) name) (conn_is x name ∙ ap (option_map as_conn) e)

-- ---- rounds

often_behind : (f : World → World) (n : ℕ) (w : World) → often n f (f w) ≡ often (suc n) f w
unfolding often
often_behind f zero w = refl
often_behind f (suc n) w = ap f (often_behind f n w)

-- a round leads where its world settles
pub round_settles : (w : World) → HasValues (programs w.app) → Reachable w → settled (round w) ≡ settled w
round_settles w good r =
    let l = reached_stands w r in
    let next = round_holds (IsSound w.app) IsLinked (sound_kept w.app) w l in
    let many = tower_makes (Stands w.app) is_stuck round measures (round w) in
    let one : settled (round w) ≡ often (suc many.0) round w = many.1 ∙ often_behind round many.0 w in
    one ∙ settling.rounds w.app good (suc many.0) w l (ap is_stuck (sym one) ∙ settling.stuck w.app good (round w) next)

-- and a world in which nothing can be made is settled
pub stuck_is_settled : (w : World) → HasValues (programs w.app) → Reachable w → is_stuck w ≡ true → settled w ≡ w
unfolding often
stuck_is_settled w good r s = sym (settling.rounds w.app good 0 w (reached_stands w r) s)

-- ---- the settled world

pub rest_stays : (x : AWorld) → IsWorld x → is_stuck (as_world x) ≡ true → IsWorld (at_rest x)
rest_stays x p stuck = record {
  values = p.values;
  reachable = p.reachable;
  order = p.order;
  clients = λ q. by q (at text_cmp x.conns q) refl;
  present = p.present;
  busy = sorted-nil text_cmp;
  settled = omega arith;
}
  where
    by : (q : List ℕ) (o : Option AConnection) → at text_cmp x.conns q ≡ o → IfSome o (IsClient (at_rest x) q)
    by q None is = tt
    by q (Some c) is = record {
      connection = (client_is x p q c is).connection;
      rests = λ free why.
          idle_from x.app (record { history = x.history; conn = as_conn c }) (none_of_phase (as_world x) q (as_conn c) stuck (conn_there x q c is));
    }

-- rounds that lead there make the event
pub settling_made : (x y : AWorld) → IsWorld y → settled (as_world y) ≡ settled (as_world x) → is_stuck (as_world y) ≡ true → IsStep x event.Settle (at_rest y)
settling_made x y p same stuck = record { stays = rest_stays y p stuck; does = sym (stuck_is_settled (as_world y) p.values p.reachable stuck) ∙ same }

-- ---- acts one after another

pub no_acts : (w : World) → ActsLead w w
no_acts w = ([], refl)

pub acts_go_on : (u v w : World) → ActsLead u v → ActsLead v w → ActsLead u w
acts_go_on u v w a b = (a.0 ++ b.0, made-append done a.0 b.0 u ∙ (ap (made done b.0) a.1 ∙ b.1))

through_acts : {W A : Type 0} (f : A → W → W) (ps : List (W → List A)) (w : W) → (acts : List A) × (made f acts w ≡ through f ps w)
through_acts f [] w = ([], refl)
through_acts f (q ∷ ps) w = let rest = through_acts f ps (made f (q w) w) in (q w ++ rest.0, made-append f (q w) rest.0 w ∙ rest.1)

-- a visit is some acts
pub visit_is_acts : (w : World) (name : List ℕ) → IsSorted text_cmp w.conns → ActsLead w (visits name w)
visit_is_acts w name sorted = by (conn_of w name) refl
  where
    by : (o : Option Conn) → conn_of w name ≡ o → ActsLead w (visited_by w name o)
    by None e = ([], refl)
    by (Some c) e =
        let x : Side = record { history = w.history; conn = c } in
        let acts = through_acts (act_on w.app) (map (phase_on w.app) order) x in (
          map (λ a. (name, a)) acts.0,
          ap (made done (map (λ a. (name, a)) acts.0)) (sym (put_itself w name sorted c e))
              ∙ (made_put w name sorted acts.0 x ∙ ap (with_side w name) acts.1),
        )
