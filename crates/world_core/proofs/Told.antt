-- Clients that are told.
use Rattle.ejson_value.specs.declared.memory.Mem.{Mem}
use Rattle.std.specs.Prelude.{◌≡◌, ℕ, ◌+◌, ◌<◌, ◌||◌, suc, zero, List, [], ◌∷◌, ◌++◌, length, take, drop, get_or, Bool, true, false, cond, Option, None, Some, Result, Ok, Err, refl}
use Rattle.std.specs.BTreeMap.{insert_entry}
use Rattle.std.specs.Ordering.{eq_by_cmp}
use Rattle.std.proofs.Common.{ap, sym, subst, ◌∙◌}
use Rattle.map_model.specs.Maps.{at}
use Rattle.map_model.specs.MapLaws.{at-put}
use Rattle.value_model.specs.Order.{text_cmp}
use Rattle.ejson_value.specs.Key.{name_order}
use Rattle.world_core.specs.store_machine.State.{MachineState}
use Rattle.world_core.specs.world_model.Settle.{Phase, order}
use Rattle.world_core.specs.connection_laws.Connection.{AConnection}
use Rattle.world_core.specs.connection.Asks.{asks_nothing}
use Rattle.world_core.specs.multiplexer.Telling.{ANews, nothing_told}
use Rattle.world_core.specs.News.{AreNews}
use Rattle.world_core.specs.NewsLaws.{nothing_is_news}
use Rattle.world_core.specs.Visit.{visit, IsReady, Passes}
use Rattle.lanes.specs.Lanes.{Named, VisitBy, EachTold, IsAmong, AreLed, AreTold, Hears}
use Rattle.lanes.specs.TellingLaws.{next_take, told_more, visit_ok, told_left}
use Rattle.world_core.specs.Visits.{CanBeTold, AreReady, Tells, Leads, TellsIn}

module _ (m : MachineState) where
  pub tells_lead : (x y : AConnection) (flag : Bool) → Tells m x y flag → Leads m x y
  tells_lead x y flag t = record { news = t.news; told = t.told; led = t.led }

  -- ---- one client

  pub can_tell : (conns : Named AConnection) (name : List ℕ) (c : AConnection) (news : ANews) → AreReady m conns → AreNews m news → Some c ≡ at text_cmp conns name → IsReady (visit m c news)
  can_tell conns name c news ready told found = let can = ready name c (sym found) in record { connection = can.connection; linked = can.linked; news = told }

  module _ (ps : List Phase) (old new : AConnection) (news told : ANews) where
    pub hears : (r : Result Bool Mem) → Passes ps (visit m old news) (visit m new told) r → (asks_nothing old ≡ true → Passes order (visit m old news) (visit m new told) r) → Hears (Tells m) (Leads m) old new r
    hears (Ok flag) shows round = record { news = news; told = told; led = shows.led; passes = round }
    hears (Err e) shows round = record { news = news; told = told; led = shows }

    pub still_news : (r : Result Bool Mem) → Passes ps (visit m old news) (visit m new told) r → AreNews m told
    still_news (Ok flag) shows = shows.led.ready.news
    still_news (Err e) shows = shows.ready.news

  -- ---- the clients after it

  heard_ready : (old new : AConnection) (r : Result Bool Mem) → Hears (Tells m) (Leads m) old new r → CanBeTold m new
  heard_ready old new (Ok flag) t = record { connection = t.led.ready.connection; linked = t.led.ready.linked }
  heard_ready old new (Err e) t = record { connection = t.led.ready.connection; linked = t.led.ready.linked }

  put_ready : (a : Named AConnection) (name : List ℕ) (new : AConnection) → AreReady m a → CanBeTold m new → AreReady m (insert_entry text_cmp a name new)
  put_ready a name new ready can q c is = by (eq_by_cmp text_cmp q name) (sym (at-put name_order a name new q) ∙ is)
    where
      by : (e : Bool) → cond e (Some new) (at text_cmp a q) ≡ Some c → CanBeTold m c
      by true e = subst (CanBeTold m) (cc e) can
      by false e = ready q c e

  pub told_ready : (a b : Named AConnection) (name : List ℕ) (r : Result Bool Mem) → AreReady m a → TellsIn m a b name r → AreReady m b
  told_ready a b name r ready v = by (at text_cmp a name) v
    where
      by : (o : Option AConnection) → VisitBy o (Hears (Tells m) (Leads m)) (Ok false) a b name r → AreReady m b
      by None v = subst (AreReady m) (sym v.0) ready
      by (Some old) v = subst (AreReady m) (sym v.1) (put_ready a name v.0 ready (heard_ready old v.0 r v.2))

  -- ---- one after another

  module _ (names : List (List ℕ)) (i : ℕ) (name : List ℕ) (less : i < length names) (is : name ≡ get_or names i name) (a b c : Named AConnection) (flag : Bool) (t : EachTold (Tells m) (take i names) a b flag) where
    pub goes_on : (now : Bool) → TellsIn m b c name (Ok now) → EachTold (Tells m) (take (i + 1) names) a c (now || flag)
    goes_on now v = subst (λ (ns : List (List ℕ)). EachTold (Tells m) ns a c (now || flag)) (sym (next_take names i name less is)) (told_more (Tells m) (take i names) name a b c flag now t (visit_ok (Tells m) (Leads m) Mem name b c now v))

    pub is_left : (e : Mem) → TellsIn m b c name (Err e) → AreTold (Tells m) (Leads m) names a c (Err e)
    is_left e v =
        let left = told_left (Tells m) (Leads m) tells_lead (take i names) (drop (i + 1) names) name a b c flag e t v in
        subst (λ (ns : List (List ℕ)). (s : Named AConnection) × AreLed (IsAmong ns) (Leads m) s a c) (ap (λ (ns : List (List ℕ)). ns ++ drop (i + 1) names) (sym (next_take names i name less is)) ∙ cut names (i + 1)) left
      where
        cut : (xs : List (List ℕ)) (n : ℕ) → take n xs ++ drop n xs ≡ xs
        cut xs zero = refl
        cut [] (suc n) = refl
        cut (x ∷ xs) (suc n) = ap (λ ys. x ∷ ys) (cut xs n)

-- where nobody is there
pub nobody_told : {X : Type 0} (Tells : X → X → Bool → Type 0) (names : List (List ℕ)) → EachTold Tells names [] [] false
nobody_told Tells [] = (refl, refl)
nobody_told Tells (name ∷ names) = ([], false, false, (refl, refl), nobody_told Tells names, refl)

-- where nothing was told yet
pub no_news : (m : MachineState) (news : ANews) → news ≡ nothing_told → AreNews m news
no_news m news none = subst (λ (n : ANews). AreNews m n) (sym none) (nothing_is_news m)
