-- What a client of a name is asked for is asked in the world.
use Rattle.ejson_value.specs.declared.memory.Mem.{Mem}
use Rattle.std.specs.Prelude.{◌≡◌, ℕ, List, Bool, true, false, Option, None, Some, Ok, Err, refl}
use Rattle.std.specs.BTreeMap.{insert_entry}
use Rattle.std.proofs.Common.{ap, sym, subst, ◌∙◌}
use Rattle.map_model.specs.Maps.{at}
use Rattle.value_model.specs.Order.{text_cmp}
use Rattle.world_core.specs.world_model.declared.events.Event.{Event}
use Rattle.world_core.specs.world_model.declared.events.Event.TheVariants as event
use Rattle.world_core.specs.world_model.Asks.{Ask, can_ask}
use Rattle.world_core.specs.world_model.Asks as ask
use Rattle.world_core.specs.world_model.World.{World, asked_in}
use Rattle.world_core.specs.world_model.Events.{step, IsEvent}
use Rattle.world_core.specs.world_model.Lines.{idle_unless, ask_values, texts_of, lines_of}
use Rattle.world_core.specs.world_invariant_laws.Lift.{IsAsk}
use Rattle.world_core.specs.connection_laws.Connection.{AConnection, as_conn}
use Rattle.world_core.specs.connection_laws.Asks.{IsAsked}
use Rattle.world_core.specs.connection.Answers.{DoesAsked}
use Rattle.world_core.specs.connection.Acting.{ask_in, AsksBy as AsksOf}
use Rattle.world_laws.specs.World.{Names, AConnections, AWorld, as_world, connection_of, IsWorld}
use Rattle.world_laws.specs.Doing.{with_name, without_name, touched, is_drop, after_ask, after_drop, IsAskedIn, IsStep, IsLeft}
use Rattle.world_laws.specs.Changing.{client_is}
use Rattle.world_laws.specs.Making.{touch_stays}
use Rattle.world_laws.specs.Asking.{not_asked, ask_made, drop_made, nobody_asked}
use Rattle.world_laws.specs.Printing.{ask_printed, nobody_printed}
use Rattle.world_core.specs.Clients.{AsksIn}
use Rattle.world_core.specs.Happening.{IsSame, Happens, asked_one}
use Rattle.world_core.proofs.Puts.{put_same, AsksBy}

-- ---- the event that asks

-- it asks this of the client of this name
pub record IsAsking (e : Event) (name : List ℕ) : Type 0 where
  pub what : Ask
  pub is : ask_in e ≡ Some what
  pub steps : (w : World) → step w e ≡ asked_in name what w
  pub prints : (w : World) → lines_of w e ≡ texts_of (ask_values w name what)
  pub good : IsEvent e → IsAsk what

-- and not to be gone
pub record IsStaying (e : Event) (name : List ℕ) : Type 0 where
  pub asking : IsAsking e name
  pub stays : is_drop asking.what ≡ false
  pub left : (x y : AWorld) → IsSame x y → IsLeft e x y

asks_one : (e : Event) (name : List ℕ) → asked_one e ≡ Some name → IsStaying e name
asks_one (event.Sub n id publication params) name e =
    let same : n ≡ name = cc e in
    subst (λ (k : List ℕ). IsStaying (event.Sub n id publication params) k) same
    (record { asking = record { what = ask.subscribe id publication params; is = refl; steps = λ w. refl; prints = λ w. refl; good = λ g. g }; stays = refl; left = λ x y s. s })
asks_one (event.Unsub n id) name e =
    let same : n ≡ name = cc e in
    subst (λ (k : List ℕ). IsStaying (event.Unsub n id) k) same (record { asking = record { what = ask.unsubscribe id; is = refl; steps = λ w. refl; prints = λ w. refl; good = λ g. g }; stays = refl; left = λ x y s. s })
asks_one (event.Call n method params) name e =
    let same : n ≡ name = cc e in
    subst (λ (k : List ℕ). IsStaying (event.Call n method params) k) same
    (record { asking = record { what = ask.call method params; is = refl; steps = λ w. refl; prints = λ w. refl; good = λ g. g }; stays = refl; left = λ x y s. s })
asks_one (event.Raw n t) name e =
    let same : n ≡ name = cc e in
    subst (λ (k : List ℕ). IsStaying (event.Raw n t) k) same (record { asking = record { what = ask.raw t; is = refl; steps = λ w. refl; prints = λ w. refl; good = λ g. g }; stays = refl; left = λ x y s. s })
asks_one (event.Client n) name e = cc e
asks_one (event.Drop n) name e = cc e
asks_one (event.Do n a) name e = cc e
asks_one (event.Step n k) name e = cc e
asks_one (event.Learn n k place) name e = cc e
asks_one (event.Load n id place) name e = cc e
asks_one (event.Advance n id count) name e = cc e
asks_one (event.Admin op) name e = cc e
asks_one event.Settle name e = cc e
asks_one (event.Show n) name e = cc e
asks_one (event.Journal n) name e = cc e
asks_one event.Store name e = cc e
asks_one event.History name e = cc e

abbrev asks_drop : (name : List ℕ) → IsAsking (event.Drop name) name
asks_drop name = record { what = ask.drop; is = refl; steps = λ w. refl; prints = λ w. refl; good = λ g. g }

-- ---- what the client does

module _ (x : AWorld) (p : IsWorld x) (name : List ℕ) (e : Event) (i : IsAsking e name) (put : AConnections) (busy : Names) (touches : busy ≡ with_name x.busy name) where
  abbrev y : AWorld
  y = record x { conns = put; busy = busy }

  unchanged : put ≡ x.conns → y ≡ touched x name
  unchanged s = λ j. record x { conns = s j; busy = touches j }

  same_world : put ≡ x.conns → IsSame x y
  same_world s = (subst IsWorld (sym (unchanged s)) (touch_stays x p name), ap as_world (unchanged s))

  -- nothing is done
  abbrev Stays : Type 0
  Stays = IsStep x e y × (texts_of (idle_unless false) ≡ lines_of (as_world x) e)

  nobody : connection_of x name ≡ None → put ≡ x.conns → Stays
  nobody is s =
      let same = same_world s in
      (record { stays = same.0; does = same.1 ∙ sym (i.steps (as_world x) ∙ nobody_asked x name i.what is) }, sym (i.prints (as_world x) ∙ ap texts_of (nobody_printed x name i.what is)))

  module _ (old : AConnection) (is : connection_of x name ≡ Some old) (new : AConnection) (puts : put ≡ insert_entry text_cmp x.conns name new) where
    pub itself : new ≡ old → put ≡ x.conns
    itself e = puts ∙ (ap (insert_entry text_cmp x.conns name) e ∙ put_same x.conns name old p.order is)

    printed : (b : Bool) → can_ask (as_conn old) i.what ≡ b → texts_of (idle_unless b) ≡ lines_of (as_world x) e
    printed b can = sym (i.prints (as_world x) ∙ (ap texts_of (ask_printed x name old i.what is) ∙ ap (λ c. texts_of (idle_unless c)) can))

    refuses : (can_ask (as_conn old) i.what ≡ false) × (new ≡ old) → Stays
    refuses t =
        let same = same_world (itself t.1) in
        (record { stays = same.0; does = same.1 ∙ sym (i.steps (as_world x) ∙ not_asked x p name old is i.what t.0) }, printed false t.0)

    named : (b : Bool) → AsksOf (Some i.what) old new (Ok b) → DoesAsked x.app name x.history i.what old new b
    named b t = let c = (client_is x p name old is).connection in t x.app name x.history c

  -- ---- where it stays

  module _ (stays : is_drop i.what ≡ false) (good : IsEvent e) where
    does : (old : AConnection) (is : connection_of x name ≡ Some old) (new : AConnection) → put ≡ insert_entry text_cmp x.conns name new → (b : Bool) → DoesAsked x.app name x.history i.what old new b →
        IsStep x e y × (texts_of (idle_unless b) ≡ lines_of (as_world x) e)
    does old is new puts true d =
        let made : IsAskedIn x name i.what (after_ask x name new) = ask_made x p name old is i.what new d (i.good good) stays in
        let now : IsAskedIn x name i.what y = subst (λ (v : AWorld). IsAskedIn x name i.what v) (sym (λ j. record x { conns = puts j; busy = touches j })) made in
        (record { stays = now.stays; does = now.does ∙ sym (i.steps (as_world x)) }, printed old is new puts true d.can)
    does old is new puts false d = refuses old is new puts d

    pub asked_steps : (b : Bool) → AsksIn e x.conns put name (Ok b) → IsStep x e y × (texts_of (idle_unless b) ≡ lines_of (as_world x) e)
    asked_steps b t = by (at text_cmp x.conns name) refl t
      where
        by : (found : Option AConnection) → at text_cmp x.conns name ≡ found → AsksBy found e x.conns put name (Ok b) → IsStep x e y × (texts_of (idle_unless b) ≡ lines_of (as_world x) e)
        by None is t =
            let none : b ≡ false = cc (t.1) in
            subst (λ c. IsStep x e y × (texts_of (idle_unless c) ≡ lines_of (as_world x) e)) (sym none) (nobody is t.0)
        by (Some old) is t = does old is t.0 t.1 b (named old is t.0 t.1 b (subst (λ (o : Option Ask). AsksOf o old t.0 (Ok b)) i.is t.2))

  pub asked_err : (m : Mem) → AsksIn e x.conns put name (Err m) → IsSame x y
  asked_err m t = by (at text_cmp x.conns name) refl t
    where
      by : (found : Option AConnection) → at text_cmp x.conns name ≡ found → AsksBy found e x.conns put name (Err m) → IsSame x y
      by None is t = cc (t.1)
      by (Some old) is t = same_world (itself old is t.0 t.1 (subst (λ (o : Option Ask). AsksOf o old t.0 (Err m)) i.is t.2))

-- ---- what happens then

module _ (x : AWorld) (p : IsWorld x) (name : List ℕ) (e : Event) (put : AConnections) (busy : Names) (touches : busy ≡ with_name x.busy name) where
  pub ask_happens : asked_one e ≡ Some name → IsEvent e → (b : Bool) → AsksIn e x.conns put name (Ok b) → (lines : List (List ℕ)) → lines ≡ texts_of (idle_unless b) →
      Happens x e (record x { conns = put; busy = busy }) (Ok lines)
  ask_happens one good b t lines prints =
      let i = asks_one e name one in
      let made = asked_steps x p name e i.asking put busy touches i.stays good b t in
      (made.0, prints ∙ made.1)

  pub ask_left : asked_one e ≡ Some name → (m : Mem) → AsksIn e x.conns put name (Err m) → Happens x e (record x { conns = put; busy = busy }) (Err m)
  ask_left one m t = let i = asks_one e name one in i.left x (record x { conns = put; busy = busy }) (asked_err x p name e i.asking put busy touches m t)

-- where memory runs out before
pub ask_same : (x : AWorld) → IsWorld x → (name : List ℕ) (e : Event) → asked_one e ≡ Some name → (y : AWorld) → y ≡ x → (m : Mem) → Happens x e y (Err m)
ask_same x p name e one y same m = (asks_one e name one).left x y (subst IsWorld (sym same) p, ap as_world same)

-- ---- a client that leaves

module _ (x : AWorld) (p : IsWorld x) (name : List ℕ) (put : AConnections) (busy : Names) (touches : busy ≡ with_name x.busy name) where
  abbrev e : Event
  e = event.Drop name

  abbrev without : AWorld
  without = record x { conns = put; present = without_name x.present name; busy = busy }

  pub leaves : AsksIn e x.conns put name (Ok true) → (lines : List (List ℕ)) → lines ≡ texts_of (idle_unless true) → Happens x e without (Ok lines)
  leaves t lines prints = by (at text_cmp x.conns name) refl t
    where
      by : (found : Option AConnection) → at text_cmp x.conns name ≡ found → AsksBy found e x.conns put name (Ok true) → Happens x e without (Ok lines)
      by None is t = cc (t.1)
      by (Some old) is t =
          let d : IsAsked x.app name x.history ask.drop old t.0 = named x p name e (asks_drop name) put busy touches old is t.0 t.1 true t.2 in
          let gone : t.0.is_dropped ≡ true = ap (λ c. c.is_dropped) d.does in
          let made : IsAskedIn x name ask.drop (after_drop x name t.0) = drop_made x p name old is ask.drop t.0 d tt gone in
          let now : IsAskedIn x name ask.drop without = subst (λ (v : AWorld). IsAskedIn x name ask.drop v) (sym (λ j. record x { conns = t.1 j; present = without_name x.present name; busy = touches j })) made in
          (record { stays = now.stays; does = now.does }, prints ∙ printed x p name e (asks_drop name) put busy touches old is t.0 t.1 true d.can)

  pub stays : AsksIn e x.conns put name (Ok false) → (lines : List (List ℕ)) → lines ≡ texts_of (idle_unless false) → Happens x e (record x { conns = put; busy = busy }) (Ok lines)
  stays t lines prints = by (at text_cmp x.conns name) refl t
    where
      ends : IsStep x e (record x { conns = put; busy = busy }) × (texts_of (idle_unless false) ≡ lines_of (as_world x) e) → Happens x e (record x { conns = put; busy = busy }) (Ok lines)
      ends made = (made.0, prints ∙ made.1)

      by : (found : Option AConnection) → at text_cmp x.conns name ≡ found → AsksBy found e x.conns put name (Ok false) → Happens x e (record x { conns = put; busy = busy }) (Ok lines)
      by None is t = ends (nobody x p name e (asks_drop name) put busy touches is t.0)
      by (Some old) is t = ends (refuses x p name e (asks_drop name) put busy touches old is t.0 t.1 (named x p name e (asks_drop name) put busy touches old is t.0 t.1 false t.2))

  pub leave_left : (m : Mem) → AsksIn e x.conns put name (Err m) → Happens x e (record x { conns = put; busy = busy }) (Err m)
  leave_left m t = asked_err x p name e (asks_drop name) put busy touches m t
