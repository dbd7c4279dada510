-- An act of a client is the act of the world's definitions, and what is kept of the world stays right.
use Rattle.std.specs.Prelude.{◌≡◌, ℕ, ◌==◌, List, [], ◌∷◌, ◌++◌, length, Bool, true, false, cond, not, Option, Some, None, is_some, IfSome}
use Rattle.std.specs.Prelude.{option_map, option_and_then, if◌then◌else◌, refl}
use Rattle.std.specs.Ordering.{eq_by_cmp}
use Rattle.std.specs.BTreeMap.{insert_entry}
use Rattle.std.proofs.Common.{ap, sym, subst, ◌∙◌}
use Rattle.map_model.specs.Maps.{at}
use Rattle.map_model.specs.MapLaws.{at-put, sorted-put, key_is, eq_by_cmp-self}
use Rattle.value_model.specs.Order.{text_cmp}
use Rattle.ejson_value.specs.Key.{name_order}
use Rattle.app_model.specs.App.{App}
use Rattle.headline.specs.history_model.declared.entry.Entry.{Entry}
use Rattle.headline.specs.session_model.Items.{Item}
use Rattle.headline.specs.session_model.Methods.{Blocking}
use Rattle.headline.specs.session_model.Taking.{Taken, at_once, to_queue, taken_text}
use Rattle.headline.specs.world_model.declared.events.Act.{Act}
use Rattle.headline.specs.world_model.declared.events.Act.TheVariants as act
use Rattle.headline.specs.world_model.declared.events.Answer.TheVariants as answer
use Rattle.headline.specs.world_model.declared.events.Event.{Event}
use Rattle.headline.specs.world_model.Conn.{Waiting, Conn, state_in}
use Rattle.headline.specs.world_model.Acts.{goes_up, received_as, receives, handles, is_kept, unbegun, is_refused, begin_entry, begun, learnt}
use Rattle.headline.specs.world_model.Acts.{learns_item, sends, takes, outcome, is_done, can, does, entries}
use Rattle.headline.specs.world_model.World.{World, conn_of, acted, done_by, done, outcome_by}
use Rattle.headline.specs.world_model.Events.{act_in, act_by, done_if, acts, step, Reachable}
use Rattle.connection_laws.specs.Connection.{AConnection, as_conn}
use Rattle.connection_laws.specs.Acting.{IsDone}
use Rattle.connection_laws.specs.StandingLaws.{longer_stays}
use Rattle.world_laws.specs.World.{Names, AWorld, as_world, connection_of, is_among, is_there, IsClient, IsWorld}
use Rattle.world_laws.specs.Gone.{AreNotBy}
use Rattle.world_laws.specs.ReachingLaws.{done_reaches}
use Rattle.world_laws.specs.Changing.{conn_is, conn_there, put_seen, numbers_differ, change_stays}
use Rattle.world_laws.specs.Doing.{IsStep, with_name, after_act, touched, IsActed}

-- ---- what an act leaves

up_there : (c : Conn) (ts : List (List ℕ)) → (goes_up c ts).is_dropped ≡ c.is_dropped
up_there c [] = refl
up_there c (t ∷ ts) = refl

recv_there : (app : App) (history : List Entry) (c : Conn) (ts : List (List ℕ)) → (receives app history c ts).is_dropped ≡ c.is_dropped
recv_there app history c [] = refl
recv_there app history c (t ∷ ts) = by (taken_text (state_in c).connected t)
  where
    by : (taken : Taken) → (received_as app history (record c { upward = ts; received = c.received ++ t ∷ [] }) (length t) taken).is_dropped ≡ c.is_dropped
    by (at_once i) = refl
    by (to_queue message) = refl

handle_there : (app : App) (history : List Entry) (c : Conn) (ws : List Waiting) → (handles app history c ws).is_dropped ≡ c.is_dropped
handle_there app history c [] = refl
handle_there app history c (w ∷ ws) = refl

learn_there : (app : App) (history : List Entry) (d : Conn) (o : Option Item) → (learns_item app history d o).is_dropped ≡ d.is_dropped
learn_there app history d None = refl
learn_there app history d (Some i) = refl

send_there : (c : Conn) (ts : List (List ℕ)) → (sends c ts).is_dropped ≡ c.is_dropped
send_there c [] = refl
send_there c (t ∷ ts) = refl

take_there : (c : Conn) (ts : List (List ℕ)) → (takes c ts).is_dropped ≡ c.is_dropped
take_there c [] = refl
take_there c (t ∷ ts) = refl

-- a client that is there stays there
pub does_there : (app : App) (history : List Entry) (c : Conn) (a : Act) → (does app history c a).is_dropped ≡ c.is_dropped
does_there app history c act.Up = up_there c c.client.waiting
does_there app history c act.Recv = recv_there app history c c.upward
does_there app history c act.Handle = handle_there app history c c.queue
does_there app history c act.Begin = refl
does_there app history c (act.Step k) = refl
does_there app history c (act.Learn k place) =
    learn_there app history (record c { kept = if is_kept k c.kept then None else c.kept }) (learnt app history c k place)
does_there app history c (act.Load sub place) = refl
does_there app history c (act.Advance sub count) = refl
does_there app history c act.Send = send_there c c.outbox
does_there app history c act.Take = take_there c c.downward

begun_apart : (app : App) (history : List Entry) (m n : ℕ) (o : Option Blocking) → (n == m) ≡ false → AreNotBy n (begun app history m o)
begun_apart app history m n None apart = tt
begun_apart app history m n (Some b) apart =
    elim (is_refused app history b) as (λ r. AreNotBy n (cond r [] (begin_entry m b ∷ []))) [ true ↦ tt | false ↦ (apart, tt) ]

-- its entries are of its session
pub entries_apart : (app : App) (history : List Entry) (c : Conn) (a : Act) (n : ℕ) → (n == c.number) ≡ false → AreNotBy n (entries app history c a)
entries_apart app history c act.Up n apart = tt
entries_apart app history c act.Recv n apart = tt
entries_apart app history c act.Handle n apart = tt
entries_apart app history c act.Begin n apart = begun_apart app history c.number n (unbegun app history c) apart
entries_apart app history c (act.Step k) n apart = (apart, tt)
entries_apart app history c (act.Learn k place) n apart = tt
entries_apart app history c (act.Load sub place) n apart = tt
entries_apart app history c (act.Advance sub count) n apart = tt
entries_apart app history c act.Send n apart = tt
entries_apart app history c act.Take n apart = tt

-- ---- names

pub among_put : (names : Names) (name q : List ℕ) → is_among (with_name names name) q ≡ cond (eq_by_cmp text_cmp q name) true (is_among names q)
among_put names name q =
    ap is_some (at-put name_order names name tt q)
    ∙ elim (eq_by_cmp text_cmp q name) as
    (λ b. is_some (cond b (Some (let u : Unit {0} = tt in u)) (at text_cmp names q)) ≡ cond b true (is_among names q)) [ true ↦ refl | false ↦ refl ]

pub is_busy : (names : Names) (name : List ℕ) → is_among (with_name names name) name ≡ true
is_busy names name = among_put names name name ∙ ap (λ b. cond b true (is_among names name)) (eq_by_cmp-self name_order name)

pub busier : (names : Names) (name q : List ℕ) → is_among (with_name names name) q ≡ false → is_among names q ≡ false
busier names name q e = by (eq_by_cmp text_cmp q name) (sym (among_put names name q) ∙ e)
  where
    by : (b : Bool) → cond b true (is_among names q) ≡ false → is_among names q ≡ false
    by true f = cc f
    by false f = f

-- who is there stays so, where a client changes that is there before and after, or is gone
pub present_stays : (x : AWorld) → IsWorld x → (name : List ℕ) (old new : AConnection) → connection_of x name ≡ Some old → new.is_dropped ≡ old.is_dropped →
    (q : List ℕ) → is_among x.present q ≡ is_there (at text_cmp (insert_entry text_cmp x.conns name new) q)
present_stays x p name old new is same q =
    p.present.1 q ∙ (by (eq_by_cmp text_cmp q name) refl ∙ ap is_there (sym (at-put name_order x.conns name new q)))
  where
    by : (b : Bool) → eq_by_cmp text_cmp q name ≡ b → is_there (at text_cmp x.conns q) ≡ is_there (cond b (Some new) (at text_cmp x.conns q))
    by true e = ap (λ (n : List ℕ). is_there (at text_cmp x.conns n)) (key_is name_order q name e) ∙ (ap is_there is ∙ ap not (sym same))
    by false e = refl

-- ---- an act that is made

module _ (x : AWorld) (p : IsWorld x) (name : List ℕ) (old : AConnection) (is : connection_of x name ≡ Some old) (a : Act) where
  done_is : can x.app x.history (as_conn old) a ≡ true → done (name, a) (as_world x) ≡ acted (as_world x) name a (as_conn old)
  done_is may = ap (done_by (as_world x) name a) (conn_there x name old is) ∙ ap (λ b. cond b (acted (as_world x) name a (as_conn old)) (as_world x)) may

  pub act_made : (new : AConnection) → IsDone x.app name x.history a old new → IsActed x name a (after_act x name new (entries x.app x.history (as_conn old) a))
  act_made new d =
      let more = entries x.app x.history (as_conn old) a in
      let y = after_act x name new more in
      let does_it : as_world y ≡ done (name, a) (as_world x) =
      (λ j. record (as_world x)
      { history = x.history ++ more; conns = (put_seen x.conns name new p.order ∙ ap (insert_entry text_cmp (as_world x).conns name) d.does) j })
      ∙ sym (done_is (ap is_done d.can)) in
      record {
        stays = change_stays x p name new more x.opened x.present (with_name x.busy name)
            (subst (λ (w : World). Reachable w) (sym does_it) (done_reaches (name, a) (as_world x) p.reachable))
            (record { connection = longer_stays x.app name x.history more new d.stays; rests = λ free why. cc (sym (is_busy x.busy name) ∙ free) })
            (λ q c isc differ. entries_apart x.app x.history (as_conn old) a c.session.carried.number (numbers_differ x p q name c old isc is differ))
            (p.present.0, present_stays x p name old new is (ap (λ (c : Conn). c.is_dropped) d.does ∙ does_there x.app x.history (as_conn old) a))
            (sorted-put name_order x.busy name tt p.busy) (busier x.busy name);
        does = does_it;
      }

  -- what is answered
  pub outcome_is : outcome_by (as_world x) a (conn_of (as_world x) name) ≡ outcome x.app x.history (as_conn old) a
  outcome_is = ap (outcome_by (as_world x) a) (conn_there x name old is)

  -- one that isn't made leaves the world
  pub act_not_made : is_done (outcome x.app x.history (as_conn old) a) ≡ false → done (name, a) (as_world x) ≡ as_world x
  act_not_made may = ap (done_by (as_world x) name a) (conn_there x name old is) ∙ ap (λ b. cond b (acted (as_world x) name a (as_conn old)) (as_world x)) may

-- it stays right that a client may have something to do
pub touch_stays : (x : AWorld) → IsWorld x → (name : List ℕ) → IsWorld (touched x name)
touch_stays x p name = record {
  values = p.values;
  reachable = p.reachable;
  order = p.order;
  clients = λ q. by q (at text_cmp x.conns q) (p.clients q);
  present = p.present;
  busy = sorted-put name_order x.busy name tt p.busy;
  settled = p.settled;
}
  where
    by : (q : List ℕ) (o : Option AConnection) → IfSome o (IsClient x q) → IfSome o (IsClient (touched x name) q)
    by q None k = tt
    by q (Some c) k = record { connection = k.connection; rests = λ free why. k.rests (busier x.busy name q free) why }

-- ---- no client of this name

pub nobody_acts : (x : AWorld) (name : List ℕ) (a : Act) → connection_of x name ≡ None → done (name, a) (as_world x) ≡ as_world x
nobody_acts x name a is = ap (done_by (as_world x) name a) (conn_is x name ∙ ap (option_map as_conn) is)

pub nobody_answers : (x : AWorld) (name : List ℕ) (a : Act) → connection_of x name ≡ None → outcome_by (as_world x) a (conn_of (as_world x) name) ≡ answer.Idle
nobody_answers x name a is = ap (outcome_by (as_world x) a) (conn_is x name ∙ ap (option_map as_conn) is)

-- ---- the act that an event names

pub acts_are : (x : AWorld) (name : List ℕ) (old : AConnection) (e : Event) → connection_of x name ≡ Some old →
    acts (as_world x) name e ≡ done_if (as_world x) name (act_in x.history (as_conn old) e)
acts_are x name old e is =
    ap (λ (o : Option Conn). done_if (as_world x) name (option_and_then (λ (c : Conn). act_in x.history c e) o)) (conn_there x name old is)

pub nobody_is_named : (x : AWorld) (name : List ℕ) (e : Event) → connection_of x name ≡ None → acts (as_world x) name e ≡ as_world x
nobody_is_named x name e is = ap (λ (o : Option Conn). done_if (as_world x) name (option_and_then (λ (c : Conn). act_in x.history c e) o))
    (conn_is x name ∙ ap (option_map as_conn) is)

-- ---- events that name acts

module _ (x : AWorld) (name : List ℕ) (e : Event) (is_of_acts : step (as_world x) e ≡ acts (as_world x) name e) where
  -- the act that is named is made
  pub named_made : (a : Act) (y : AWorld) → act_by (as_world x) name e ≡ Some a → IsActed x name a y → IsStep x e y
  named_made a y is acted_ = record { stays = acted_.stays; does = acted_.does ∙ sym (is_of_acts ∙ ap (done_if (as_world x) name) is) }

  -- it isn't, or none is named
  pub named_not_made : IsWorld x → (a : Act) → act_by (as_world x) name e ≡ Some a → done (name, a) (as_world x) ≡ as_world x → IsStep x e (touched x name)
  named_not_made p a is none = record { stays = touch_stays x p name; does = sym (is_of_acts ∙ (ap (done_if (as_world x) name) is ∙ none)) }

  pub none_named : IsWorld x → act_by (as_world x) name e ≡ None → IsStep x e x
  none_named p is = record { stays = p; does = sym (is_of_acts ∙ ap (done_if (as_world x) name) is) }
