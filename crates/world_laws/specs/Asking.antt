-- What is asked of a client, a client that begins, and an administrator's operation.
use Rattle.std.specs.Prelude.{◌≡◌, ℕ, suc, nat_lt, List, [], ◌∷◌, length, Bool, true, false, cond, not, ◌&&◌, Option, Some, None, is_some, is_none}
use Rattle.std.specs.Prelude.{option_map, IfSome, refl}
use Rattle.std.specs.Ordering.{eq_by_cmp}
use Rattle.std.specs.BTreeMap.{insert_entry}
use Rattle.std.proofs.Common.{ap, ap₂, sym, subst, ◌∙◌, arith, append-nil}
use Rattle.std.proofs.lemmas.List.{length-append}
use Rattle.std.proofs.lemmas.Map.Entries.{length-keys_of, option_filter}
use Rattle.map_model.specs.Maps.{at, IsSorted}
use Rattle.map_model.specs.MapLaws.{at-put, at-remove, at-filter, sorted-put, sorted-remove, sorted-filter}
use Rattle.value_model.specs.Val.{Val, vals_of}
use Rattle.value_model.specs.Valid.{AreValues}
use Rattle.value_model.specs.Order.{text_cmp}
use Rattle.ejson_value.specs.Key.{name_order}
use Rattle.ddp_messages.specs.Limits.{AreShallow}
use Rattle.app_model.specs.App.{App}
use Rattle.headline.specs.history_model.declared.entry.Entry.{Entry}
use Rattle.headline.specs.history_model.declared.entry.Entry.TheVariants as entry
use Rattle.headline.specs.world_model.declared.events.Event.{Event}
use Rattle.headline.specs.world_model.declared.events.Event.TheVariants as event
use Rattle.headline.specs.world_model.Conn.{Conn, client_limit}
use Rattle.headline.specs.world_model.Asks.{Ask, can_ask, asked}
use Rattle.headline.specs.world_model.Asks as ask
use Rattle.headline.specs.world_model.World.{World, conn_of, with_conn, present as present_in, can_open, opened_with, opens, asked_by, asked_in, can_ask_by}
use Rattle.headline.specs.world_model.Events.{refusal_of, entered_by, administers, step, IsEvent, Reachable}
use Rattle.headline.specs.world_invariant_laws.Lift.{IsAsk}
use Rattle.connection_laws.specs.Connection.{AConnection, new_connection, as_conn, IsConnection}
use Rattle.connection_laws.specs.Asks.{IsAsked}
use Rattle.connection_laws.specs.StandingLaws.{new_stays}
use Rattle.world_laws.specs.World.{Names, AWorld, as_conns, as_world, connection_of, is_among, is_there, IsClient, IsWorld}
use Rattle.world_laws.specs.Names.{same_keys, sorted_mapped}
use Rattle.world_laws.specs.ReachingLaws.{step_reaches}
use Rattle.world_laws.specs.Changing.{conn_is, conn_there, put_seen, other_stays, change_stays}
use Rattle.world_laws.specs.Making.{among_put, is_busy, busier, present_stays}
use Rattle.world_laws.specs.Doing.{with_name, without_name, is_drop, after_ask, after_drop, IsAskedIn, after_open, IsOpened, after_operation, IsAdministered}

-- ---- a client changes, and the history doesn't

module _ (x : AWorld) (p : IsWorld x) (name : List ℕ) (new : AConnection) (opened : ℕ) (present : Names) where
  abbrev pub next_of : List Entry → AWorld
  next_of h = record x { history = h; opened = opened; conns = insert_entry text_cmp x.conns name new; present = present; busy = with_name x.busy name }

  pub client_changes : Reachable (as_world (next_of x.history)) → IsConnection x.app name x.history new →
      IsSorted text_cmp present × ((q : List ℕ) → is_among present q ≡ is_there (at text_cmp (insert_entry text_cmp x.conns name new) q)) →
      IsWorld (next_of x.history)
  client_changes reach conn there =
      let nil = append-nil x.history in
      subst (λ (h : List Entry). IsWorld (next_of h)) nil
      (change_stays x p name new [] opened present (with_name x.busy name) (subst (λ (h : List Entry). Reachable (as_world (next_of h))) (sym nil) reach)
      (record {
        connection = subst (λ (h : List Entry). IsConnection x.app name h new) (sym nil) conn;
        rests = λ free why. cc (sym (is_busy x.busy name) ∙ free);
      })
      (λ q c isc differ. tt) there (sorted-put name_order x.busy name tt p.busy) (busier x.busy name))

-- ---- what is asked

abbrev event_of : List ℕ → Ask → Event
event_of name (ask.subscribe id publication params) = event.Sub name id publication params
event_of name (ask.unsubscribe id) = event.Unsub name id
event_of name (ask.call method params) = event.Call name method params
event_of name (ask.raw t) = event.Raw name t
event_of name ask.drop = event.Drop name

ask_event : (w : World) (name : List ℕ) (a : Ask) → step w (event_of name a) ≡ asked_in name a w
ask_event w name (ask.subscribe id publication params) = refl
ask_event w name (ask.unsubscribe id) = refl
ask_event w name (ask.call method params) = refl
ask_event w name (ask.raw t) = refl
ask_event w name ask.drop = refl

ask_good : (name : List ℕ) (a : Ask) → IsAsk a → IsEvent (event_of name a)
ask_good name (ask.subscribe id publication params) good = good
ask_good name (ask.unsubscribe id) good = tt
ask_good name (ask.call method params) good = good
ask_good name (ask.raw t) good = tt
ask_good name ask.drop good = tt

asked_reaches : (w : World) (name : List ℕ) (a : Ask) → Reachable w → IsAsk a → Reachable (asked_in name a w)
asked_reaches w name a r good = subst Reachable (ask_event w name a) (step_reaches w r (event_of name a) (ask_good name a good))

asked_there : (app : App) (c : Conn) (a : Ask) → is_drop a ≡ false → (asked app c a).is_dropped ≡ c.is_dropped
asked_there app c (ask.subscribe id publication params) e = refl
asked_there app c (ask.unsubscribe id) e = refl
asked_there app c (ask.call method params) e = refl
asked_there app c (ask.raw t) e = refl
asked_there app c ask.drop e = cc e

module _ (x : AWorld) (p : IsWorld x) (name : List ℕ) (old : AConnection) (is : connection_of x name ≡ Some old) (a : Ask) where
  -- whether it can
  pub can_is : can_ask_by a (conn_of (as_world x) name) ≡ can_ask (as_conn old) a
  can_is = ap (can_ask_by a) (conn_there x name old is)

  asked_as : (b : Bool) → can_ask (as_conn old) a ≡ b →
      asked_in name a (as_world x) ≡ cond b (with_conn (as_world x) name (asked x.app (as_conn old) a)) (as_world x)
  asked_as b may = ap (asked_by (as_world x) name a) (conn_there x name old is)
      ∙ ap (λ b. cond b (with_conn (as_world x) name (asked x.app (as_conn old) a)) (as_world x)) may

  -- where it can't, the world stays
  pub not_asked : can_ask (as_conn old) a ≡ false → asked_in name a (as_world x) ≡ as_world x
  not_asked may = asked_as false may

  module _ (new : AConnection) (d : IsAsked x.app name x.history a old new) (good : IsAsk a) where
    asked_does : as_world (after_ask x name new) ≡ asked_in name a (as_world x)
    asked_does =
        (λ j. record (as_world x) { conns = (put_seen x.conns name new p.order ∙ ap (insert_entry text_cmp (as_world x).conns name) d.does) j })
        ∙ sym (asked_as true d.can)

    reach : Reachable (as_world (after_ask x name new))
    reach = subst (λ (w : World). Reachable w) (sym asked_does) (asked_reaches (as_world x) name a p.reachable good)

    pub ask_made : is_drop a ≡ false → IsAskedIn x name a (after_ask x name new)
    ask_made stays_there = record {
      stays = client_changes x p name new x.opened x.present reach d.stays
          (p.present.0, present_stays x p name old new is (ap (λ (c : Conn). c.is_dropped) d.does ∙ asked_there x.app (as_conn old) a stays_there));
      does = asked_does;
    }

    gone_absent : new.is_dropped ≡ true → (q : List ℕ) →
        is_among (without_name x.present name) q ≡ is_there (at text_cmp (insert_entry text_cmp x.conns name new) q)
    gone_absent gone q =
        ap is_some (at-remove name_order x.present name q p.present.0)
        ∙ (by (eq_by_cmp text_cmp q name) ∙ ap is_there (sym (at-put name_order x.conns name new q)))
      where
        by : (b : Bool) → is_some (cond b None (at text_cmp x.present q)) ≡ is_there (cond b (Some new) (at text_cmp x.conns q))
        by true = sym (ap not gone)
        by false = p.present.1 q

    pub drop_made : new.is_dropped ≡ true → IsAskedIn x name a (after_drop x name new)
    drop_made gone = record {
      stays = client_changes x p name new x.opened (without_name x.present name) reach d.stays
          (sorted-remove name_order x.present name p.present.0, gone_absent gone);
      does = asked_does;
    }

-- nobody of this name does anything
pub nobody_asked : (x : AWorld) (name : List ℕ) (a : Ask) → connection_of x name ≡ None → asked_in name a (as_world x) ≡ as_world x
nobody_asked x name a is = ap (asked_by (as_world x) name a) (conn_is x name ∙ ap (option_map as_conn) is)

pub nobody_can : (x : AWorld) (name : List ℕ) (a : Ask) → connection_of x name ≡ None → can_ask_by a (conn_of (as_world x) name) ≡ false
nobody_can x name a is = ap (can_ask_by a) (conn_is x name ∙ ap (option_map as_conn) is)

-- ---- a client begins

module _ (x : AWorld) (p : IsWorld x) where
  there_is : (q : List ℕ) → is_some (at text_cmp (present_in (as_conns x.conns)) q) ≡ is_some (at text_cmp x.present q)
  there_is q =
      ap is_some (at-filter name_order (λ (e : List ℕ × Conn). not e.1.is_dropped) (as_conns x.conns) q (sorted_mapped as_conn x.conns p.order))
      ∙ (ap (λ (o : Option Conn). is_some (option_filter (λ (c : Conn). not c.is_dropped) o)) (conn_is x q) ∙ (by (connection_of x q) ∙ sym (p.present.1 q)))
    where
      by : (o : Option AConnection) → is_some (option_filter (λ (c : Conn). not c.is_dropped) (option_map as_conn o)) ≡ is_there o
      by None = refl
      by (Some c) = elim c.is_dropped as (λ b. is_some (cond (not b) (Some (as_conn c)) None) ≡ not b) [ true ↦ refl | false ↦ refl ]

  -- as many clients are there as the names say
  pub present_many : length (present_in (as_conns x.conns)) ≡ length x.present
  present_many =
      sym (length-keys_of (present_in (as_conns x.conns)))
      ∙ (ap length (same_keys (present_in (as_conns x.conns)) x.present (sorted-filter name_order (λ (e : List ℕ × Conn). not e.1.is_dropped)
      (as_conns x.conns) (sorted_mapped as_conn x.conns p.order)) p.present.0 there_is)
      ∙ length-keys_of x.present)

  none_seen : (o : Option AConnection) → is_none (option_map as_conn o) ≡ is_none o
  none_seen None = refl
  none_seen (Some c) = refl

  pub can_open_is : (name : List ℕ) → can_open (as_world x) name ≡ (is_none (connection_of x name) && nat_lt (length x.present) client_limit)
  can_open_is name = ap₂ (λ (a : Bool) (n : ℕ). a && nat_lt n client_limit) (ap is_none (conn_is x name) ∙ none_seen (connection_of x name)) present_many

module _ (x : AWorld) (p : IsWorld x) (name : List ℕ) where
  abbrev fresh : AConnection
  fresh = new_connection x.app name (suc x.opened)

  pub opened : can_open (as_world x) name ≡ true → IsOpened x name (after_open x name)
  opened may =
      let does_it : as_world (after_open x name) ≡ opens (as_world x) name =
      (λ j. record (as_world x) { opened = suc x.opened; conns = put_seen x.conns name fresh p.order j })
      ∙ sym (ap (λ b. cond b (opened_with (as_world x) name) (as_world x)) may) in
      record {
        stays = client_changes x p name fresh (suc x.opened) (with_name x.present name)
            (subst (λ (w : World). Reachable w) (sym does_it) (step_reaches (as_world x) p.reachable (event.Client name) tt))
            (new_stays x.app name (suc x.opened) x.history)
            (sorted-put name_order x.present name tt p.present.0, there);
        does = does_it;
      }
    where
      there : (q : List ℕ) → is_among (with_name x.present name) q ≡ is_there (at text_cmp (insert_entry text_cmp x.conns name fresh) q)
      there q = among_put x.present name q ∙ (by (eq_by_cmp text_cmp q name) ∙ ap is_there (sym (at-put name_order x.conns name fresh q)))
        where
          by : (b : Bool) → cond b true (is_among x.present q) ≡ is_there (cond b (Some fresh) (at text_cmp x.conns q))
          by true = refl
          by false = p.present.1 q

  pub not_opened : can_open (as_world x) name ≡ false → opens (as_world x) name ≡ as_world x
  not_opened may = ap (λ b. cond b (opened_with (as_world x) name) (as_world x)) may

-- ---- an administrator's operation

pub administered : (x : AWorld) → IsWorld x → (op : List Val) → AreValues (vals_of op) × AreShallow op → refusal_of (as_world x) op ≡ None →
    IsAdministered x op (after_operation x op)
administered x p op good may =
    let y = after_operation x op in
    let does_it : as_world y ≡ administers (as_world x) op = sym (ap (entered_by (as_world x) op) may) in
    record {
      stays = record {
        values = p.values;
        reachable = subst (λ (w : World). Reachable w) (sym does_it) (step_reaches (as_world x) p.reachable (event.Admin op) good);
        order = p.order;
        clients = λ q. by q (at text_cmp x.conns q) refl;
        present = p.present;
        busy = p.busy;
        settled = let within = p.settled in omega (arith, within, length-append x.history (entry.Admin op ∷ []));
      };
      does = does_it;
    }
  where
    by : (q : List ℕ) (o : Option AConnection) → at text_cmp x.conns q ≡ o → IfSome o (IsClient (after_operation x op) q)
    by q None is = tt
    by q (Some c) is = other_stays x (after_operation x op) p (entry.Admin op ∷ []) refl refl refl q c is (refl, tt) (λ free. free)

pub refused : (x : AWorld) (op : List Val) (code : ℕ) → refusal_of (as_world x) op ≡ Some code → administers (as_world x) op ≡ as_world x
refused x op code e = ap (entered_by (as_world x) op) e
