-- Acts of the client of a name are acts of the world.
use Rattle.ejson_value.specs.declared.memory.Mem.{Mem}
use Rattle.std.specs.Prelude.{◌≡◌, ℕ, List, ◌++◌, Bool, true, false, Option, None, Some, Result, Ok, Err, refl}
use Rattle.std.specs.BTreeMap.{insert_entry}
use Rattle.std.proofs.Common.{ap, sym, subst, ◌∙◌}
use Rattle.map_model.specs.Maps.{at}
use Rattle.value_model.specs.Order.{text_cmp}
use Rattle.world_core.specs.store_machine.State.{MachineState}
use Rattle.world_core.specs.world_model.declared.events.Act.{Act}
use Rattle.world_core.specs.world_model.declared.events.Act.TheVariants as act
use Rattle.world_core.specs.world_model.declared.events.Answer.{Answer}
use Rattle.world_core.specs.world_model.declared.events.Answer.TheVariants as answer
use Rattle.world_core.specs.world_model.declared.events.Event.{Event}
use Rattle.world_core.specs.world_model.declared.events.Event.TheVariants as event
use Rattle.world_core.specs.world_model.Acts.{outcome, is_done, entries}
use Rattle.world_core.specs.world_model.World.{World, done}
use Rattle.world_core.specs.world_model.Events.{acts, act_by, step}
use Rattle.world_core.specs.world_model.Lines.{idle_unless, answer_values, broken_values, told_values as told_in, act_values, texts_of, lines_of}
use Rattle.world_core.specs.connection_laws.Connection.{AConnection, as_conn}
use Rattle.world_core.specs.connection_laws.Acting.{IsDone}
use Rattle.world_core.specs.connection.Answers.{Acts}
use Rattle.world_core.specs.connection.Storing.{Enters}
use Rattle.world_core.specs.connection.Acting.{IsTold}
use Rattle.world_core.specs.Printed.{told_values}
use Rattle.world_laws.specs.World.{Names, AConnections, AWorld, as_world, connection_of, IsWorld}
use Rattle.world_laws.specs.Doing.{with_name, touched, is_take, IsActed, IsLeft}
use Rattle.world_laws.specs.Changing.{client_is}
use Rattle.world_laws.specs.Making.{act_made, act_not_made, touch_stays, nobody_acts, nobody_answers, named_made, none_named}
use Rattle.world_laws.specs.Printing.{answer_printed, refusal_printed, take_printed}
use Rattle.world_core.specs.Clients.{ActsIn}
use Rattle.world_core.specs.Happening.{IsSame, Happens, MakesAct, actor}
use Rattle.world_core.proofs.Puts.{put_there, put_same, ActsBy}

-- ---- what is told

idle_told : (w : World) (name : List ℕ) (a : Act) → told_in w name a answer.Idle ≡ answer_values answer.Idle
idle_told w name act.Up = refl
idle_told w name act.Recv = refl
idle_told w name act.Handle = refl
idle_told w name act.Begin = refl
idle_told w name (act.Step k) = refl
idle_told w name (act.Learn k place) = refl
idle_told w name (act.Load sub place) = refl
idle_told w name (act.Advance sub count) = refl
idle_told w name act.Send = refl
idle_told w name act.Take = refl

-- an act that is no taking tells of no refusal
told_none : (a : Act) (new : AConnection) (o : Answer) (refusal : Option ℕ) → is_take a ≡ false → IsTold a new o refusal → refusal ≡ None
told_none act.Up new o refusal e t = t
told_none act.Recv new o refusal e t = t
told_none act.Handle new o refusal e t = t
told_none act.Begin new o refusal e t = t
told_none (act.Step k) new o refusal e t = t
told_none (act.Learn k place) new o refusal e t = t
told_none (act.Load sub place) new o refusal e t = t
told_none (act.Advance sub count) new o refusal e t = t
told_none act.Send new o refusal e t = t
told_none act.Take new o refusal e t = cc e

the_take : (a : Act) → is_take a ≡ true → a ≡ act.Take
the_take act.Up e = cc e
the_take act.Recv e = cc e
the_take act.Handle e = cc e
the_take act.Begin e = cc e
the_take (act.Step k) e = cc e
the_take (act.Learn k place) e = cc e
the_take (act.Load sub place) e = cc e
the_take (act.Advance sub count) e = cc e
the_take act.Send e = cc e
the_take act.Take e = refl

not_done : (o : Answer) → is_done o ≡ false → o ≡ answer.Done → ⊥
not_done answer.Done e same = cc e
not_done answer.Idle e same = cc same
not_done answer.JournalFull e same = cc same
not_done answer.QueueFull e same = cc same

-- ---- one act

module _ (x : AWorld) (p : IsWorld x) (name : List ℕ) (a : Act) (next : MachineState) (put : AConnections) (busy : Names) (touches : busy ≡ with_name x.busy name) where
  abbrev m : MachineState
  m = record { app = x.app; history = x.history }

  abbrev y : AWorld
  y = record x { app = next.app; history = next.history; conns = put; busy = busy }

  abbrev Told : Answer → Option ℕ → Type 0
  Told o refusal = IsActed x name a y × (act_values (as_world x) name (Some a) ≡ told_values o refusal)

  unchanged : next ≡ m → put ≡ x.conns → y ≡ touched x name
  unchanged e s = λ i. record x { app = (e i).app; history = (e i).history; conns = s i; busy = touches i }

  pub same_world : next ≡ m → put ≡ x.conns → IsSame x y
  same_world e s = (subst IsWorld (sym (unchanged e s)) (touch_stays x p name), ap as_world (unchanged e s))

  not_acted : next ≡ m → put ≡ x.conns → done (name, a) (as_world x) ≡ as_world x → IsActed x name a y
  not_acted e s none = let same = same_world e s in record { stays = same.0; does = same.1 ∙ sym none }

  nobody_told : connection_of x name ≡ None → next ≡ m → put ≡ x.conns → Told answer.Idle None
  nobody_told is e s = (not_acted e s (nobody_acts x name a is), ap (told_in (as_world x) name a) (nobody_answers x name a is) ∙ idle_told (as_world x) name a)

  module _ (old : AConnection) (is : connection_of x name ≡ Some old) (new : AConnection) (puts : put ≡ insert_entry text_cmp x.conns name new) where
    pub itself : new ≡ old → put ≡ x.conns
    itself e = puts ∙ (ap (insert_entry text_cmp x.conns name) e ∙ put_same x.conns name old p.order is)

    -- it isn't made
    unmade : (o : Answer) (refusal : Option ℕ) → is_done o ≡ false → told_values o refusal ≡ answer_values o → (outcome x.app x.history (as_conn old) a ≡ o) × (new ≡ old) → next ≡ m → Told o refusal
    unmade o refusal none says t e =
        (not_acted e (itself t.1) (act_not_made x p name old is a (ap is_done t.0 ∙ none)), by (is_take a) refl ∙ sym says)
      where
        by : (b : Bool) → is_take a ≡ b → act_values (as_world x) name (Some a) ≡ answer_values o
        by false f = answer_printed x name old is a o t.0 f
        by true f =
            let same = the_take a f in
            ap (λ (b : Act). act_values (as_world x) name (Some b)) same
            ∙ refusal_printed x name old is o (ap (outcome x.app x.history (as_conn old)) (sym same) ∙ t.0) (not_done o none)

    -- it is made
    there : connection_of y name ≡ Some new
    there = ap (λ (es : AConnections). at text_cmp es name) puts ∙ put_there x.conns name new

    made : (refusal : Option ℕ) → IsDone x.app name x.history a old new → next ≡ record m { history = m.history ++ entries m.app m.history (as_conn old) a } → IsTold a new answer.Done refusal → Told answer.Done refusal
    made refusal d e told = (acted, by (is_take a) refl)
      where
        acted : IsActed x name a y
        acted = subst (λ (v : AWorld). IsActed x name a v) (sym (λ i. record x { app = (e i).app; history = (e i).history; conns = puts i; busy = touches i })) (act_made x p name old is a new d)

        by : (b : Bool) → is_take a ≡ b → act_values (as_world x) name (Some a) ≡ broken_values refusal
        by false f = answer_printed x name old is a answer.Done d.can f ∙ ap broken_values (sym (told_none a new answer.Done refusal f told))
        by true f =
            let same = the_take a f in
            ap (λ (b : Act). act_values (as_world x) name (Some b)) same
            ∙ (take_printed x name old is y new (ap (outcome x.app x.history (as_conn old)) (sym same) ∙ d.can) (subst (λ (b : Act). IsActed x name b y) same acted) there
            ∙ ap broken_values (subst (λ (b : Act). IsTold b new answer.Done refusal) same told))

    by_answer : (o : Answer) (refusal : Option ℕ) → Acts x.app name x.history a old new o → Enters a m next old o → IsTold a new o refusal → Told o refusal
    by_answer answer.Done refusal d e t = made refusal d e t
    by_answer answer.Idle refusal d e t = unmade answer.Idle refusal refl refl d e
    by_answer answer.JournalFull refusal d e t = unmade answer.JournalFull refusal refl refl d e
    by_answer answer.QueueFull refusal d e t = unmade answer.QueueFull refusal refl refl d e

  pub told_acts : (o : Answer) (refusal : Option ℕ) → ActsIn a m next x.conns put name (Ok (o, refusal)) → Told o refusal
  told_acts o refusal t = by (at text_cmp x.conns name) refl t
    where
      by : (found : Option AConnection) → at text_cmp x.conns name ≡ found → ActsBy found a m next x.conns put name (Ok (o, refusal)) → Told o refusal
      by None is t =
          let answered : (let r : Result (Answer × Option ℕ) Mem = Ok (o, refusal) in r) ≡ Ok (answer.Idle, None) = ap (λ r. r.1) t.1 in
          let both : (o, refusal) ≡ (answer.Idle, None) = cc answered in
          subst (λ (q : Answer × Option ℕ). Told q.0 q.1) (sym both) (nobody_told is (ap (λ r. r.0) t.1) t.0)
      by (Some old) is t =
          by_answer old is t.0 t.1 o refusal (subst (λ (n : List ℕ). Acts x.app n x.history a old t.0 o) (client_is x p name old is).connection.named t.2.0.0) t.2.0.1 t.2.1

  pub err_acts : (e : Mem) → ActsIn a m next x.conns put name (Err e) → IsSame x y
  err_acts e t = by (at text_cmp x.conns name) refl t
    where
      by : (found : Option AConnection) → at text_cmp x.conns name ≡ found → ActsBy found a m next x.conns put name (Err e) → IsSame x y
      by None is t = let answered : (let r : Result (Answer × Option ℕ) Mem = Err e in r) ≡ Ok (answer.Idle, None) = ap (λ r. r.1) t.1 in cc answered
      by (Some old) is t = same_world t.2.1 (itself old is t.0 t.1 t.2.0)

-- ---- the event that names it

abbrev IsAct : Event → List ℕ → Type 0
IsAct e name = (w : World) → (step w e ≡ acts w name e) × (lines_of w e ≡ texts_of (act_values w name (act_by w name e)))

is_act : (e : Event) (name : List ℕ) → actor e ≡ Some name → IsAct e name
is_act (event.Do n a) name e w = let same : n ≡ name = cc e in subst (λ (k : List ℕ). (step w (event.Do k a) ≡ acts w name (event.Do k a)) × (lines_of w (event.Do k a) ≡ texts_of (act_values w name (act_by w name (event.Do k a))))) (sym same) (refl, refl)
is_act (event.Step n k) name e w = let same : n ≡ name = cc e in subst (λ (v : List ℕ). (step w (event.Step v k) ≡ acts w name (event.Step v k)) × (lines_of w (event.Step v k) ≡ texts_of (act_values w name (act_by w name (event.Step v k))))) (sym same) (refl, refl)
is_act (event.Learn n k place) name e w =
    let same : n ≡ name = cc e in subst (λ (v : List ℕ). (step w (event.Learn v k place) ≡ acts w name (event.Learn v k place)) × (lines_of w (event.Learn v k place) ≡ texts_of (act_values w name (act_by w name (event.Learn v k place))))) (sym same) (refl, refl)
is_act (event.Load n id place) name e w =
    let same : n ≡ name = cc e in subst (λ (v : List ℕ). (step w (event.Load v id place) ≡ acts w name (event.Load v id place)) × (lines_of w (event.Load v id place) ≡ texts_of (act_values w name (act_by w name (event.Load v id place))))) (sym same) (refl, refl)
is_act (event.Advance n id count) name e w =
    let same : n ≡ name = cc e in subst (λ (v : List ℕ). (step w (event.Advance v id count) ≡ acts w name (event.Advance v id count)) × (lines_of w (event.Advance v id count) ≡ texts_of (act_values w name (act_by w name (event.Advance v id count))))) (sym same) (refl, refl)
is_act (event.Client n) name e w = cc e
is_act (event.Sub n id publication params) name e w = cc e
is_act (event.Unsub n id) name e w = cc e
is_act (event.Call n method params) name e w = cc e
is_act (event.Raw n t) name e w = cc e
is_act (event.Drop n) name e w = cc e
is_act (event.Admin op) name e w = cc e
is_act event.Settle name e w = cc e
is_act (event.Show n) name e w = cc e
is_act (event.Journal n) name e w = cc e
is_act event.Store name e w = cc e
is_act event.History name e w = cc e

left_by_act : (e : Event) (name : List ℕ) → actor e ≡ Some name → (x y : AWorld) → IsSame x y → IsLeft e x y
left_by_act (event.Do n a) name e x y s = s
left_by_act (event.Step n k) name e x y s = s
left_by_act (event.Learn n k place) name e x y s = s
left_by_act (event.Load n id place) name e x y s = s
left_by_act (event.Advance n id count) name e x y s = s
left_by_act (event.Client n) name e x y s = s
left_by_act (event.Sub n id publication params) name e x y s = s
left_by_act (event.Unsub n id) name e x y s = s
left_by_act (event.Call n method params) name e x y s = s
left_by_act (event.Raw n t) name e x y s = s
left_by_act (event.Drop n) name e x y s = s
left_by_act (event.Admin op) name e x y s = s
left_by_act event.Settle name e x y s = cc e
left_by_act (event.Show n) name e x y s = s
left_by_act (event.Journal n) name e x y s = s
left_by_act event.Store name e x y s = s
left_by_act event.History name e x y s = s

module _ (x : AWorld) (p : IsWorld x) (name : List ℕ) (e : Event) (acts_by : actor e ≡ Some name) where
  pub act_happens : (a : Act) → Some a ≡ act_by (as_world x) name e → (y : AWorld) (r : Result (List (List ℕ)) Mem) → MakesAct x name a y r → Happens x e y r
  act_happens a is y (Ok lines) t =
      let says = is_act e name acts_by (as_world x) in
      (named_made x name e says.0 a y (sym is) t.0, t.1 ∙ (ap (λ (o : Option Act). texts_of (act_values (as_world x) name o)) is ∙ sym says.1))
  act_happens a is y (Err m) t = left_by_act e name acts_by x y t

  pub no_act_happens : (lines : List (List ℕ)) → None ≡ act_by (as_world x) name e → lines ≡ texts_of (idle_unless false) → Happens x e x (Ok lines)
  no_act_happens lines is prints =
      let says = is_act e name acts_by (as_world x) in
      (none_named x name e says.0 p (sym is), prints ∙ (ap (λ (o : Option Act). texts_of (act_values (as_world x) name o)) is ∙ sym says.1))

  -- where memory runs out before
  pub act_same : (y : AWorld) → y ≡ x → (m : Mem) → Happens x e y (Err m)
  act_same y same m = left_by_act e name acts_by x y (subst IsWorld (sym same) p, ap as_world same)

  -- the client that is lent acts
  module _ (a : Act) (is : Some a ≡ act_by (as_world x) name e) (next : MachineState) (put : AConnections) (busy : Names) (touches : busy ≡ with_name x.busy name) where
    pub acted_happens : (o : Answer) (refusal : Option ℕ) → ActsIn a (record { app = x.app; history = x.history }) next x.conns put name (Ok (o, refusal)) → (lines : List (List ℕ)) → lines ≡ texts_of (told_values o refusal) →
        Happens x e (record x { app = next.app; history = next.history; conns = put; busy = busy }) (Ok lines)
    acted_happens o refusal t lines prints =
        let told = told_acts x p name a next put busy touches o refusal t in
        act_happens a is (record x { app = next.app; history = next.history; conns = put; busy = busy }) (Ok lines) (told.0, prints ∙ sym (ap texts_of told.1))

    pub acted_left : (m : Mem) → ActsIn a (record { app = x.app; history = x.history }) next x.conns put name (Err m) → Happens x e (record x { app = next.app; history = next.history; conns = put; busy = busy }) (Err m)
    acted_left m t = act_happens a is (record x { app = next.app; history = next.history; conns = put; busy = busy }) (Err m) (err_acts x p name a next put busy touches m t)
