-- What the acts of each client keep, every world keeps that events lead to, settling included. The numbers of sessions keep clients apart.
use Rattle.std.specs.Prelude.{◌≡◌, ℕ, zero, suc, ◌≤◌, ◌==◌, List, [], ◌∷◌, ◌++◌, length, Bool, true, false, cond, Option, Some, None, if◌then◌else◌, refl}
use Rattle.std.proofs.Common.{ap, sym, subst, ◌∙◌, arith, append-nil}
use Rattle.std.proofs.lemmas.List.{append_assoc}
use Rattle.std.proofs.lemmas.Bool.{ne_eqb}
use Rattle.std.specs.Ordering.{eq_by_cmp}
use Rattle.std.specs.BTreeMap.{insert_entry}
use Rattle.map_model.specs.Maps.{at, IsSorted}
use Rattle.map_model.specs.MapLaws.{sorted-nil, sorted-put, at-put, key_is, eq_by_cmp-self}
use Rattle.value_model.specs.Val.{Val, vals_of}
use Rattle.value_model.specs.Valid.{AreValues}
use Rattle.value_model.specs.Order.{text_cmp}
use Rattle.ejson_value.specs.Key.{name_order}
use Rattle.ddp_messages.specs.Limits.{AreShallow}
use Rattle.app_model.specs.App.{App}
use Rattle.world_model.specs.history_model.declared.entry.Entry.{Entry}
use Rattle.world_model.specs.history_model.declared.entry.Entry.TheVariants as entry
use Rattle.world_model.specs.session_model.Items.{Item}
use Rattle.world_model.specs.session_model.Methods.{Blocking}
use Rattle.world_model.specs.session_model.Taking.{Taken, at_once, to_queue, taken_text}
use Rattle.rounds_model.specs.Tower.{often, raised, tower}
use Rattle.rounds_model.specs.Rounds as rounds
use Rattle.world_model.specs.declared.events.Act.{Act}
use Rattle.world_model.specs.declared.events.Act.TheVariants as act
use Rattle.world_model.specs.declared.events.Event.{Event}
use Rattle.world_model.specs.declared.events.Event.TheVariants as event
use Rattle.world_model.specs.Conn.{Waiting, Conn, new_conn, state_in}
use Rattle.world_model.specs.Acts.{goes_up, received_as, receives, handles, is_kept, unbegun, is_refused, begin_entry, begun, learnt, learns_item}
use Rattle.world_model.specs.Acts.{sends, takes, can, does, entries}
use Rattle.world_model.specs.Asks.{Ask, can_ask, asked}
use Rattle.world_model.specs.Asks as ask
use Rattle.world_model.specs.World.{World, start, conn_of, with_conn, can_open, opened_with, opens, acted, done_by, done, asked_by, asked_in}
use Rattle.world_model.specs.Settle.{phases, round, measures}
use Rattle.world_model.specs.Events.{act_by, done_if, acts, refusal_of, entered_by, step, run, IsEvent, AreEvents}

-- ---- whose entries

-- it is an entry of this session
abbrev pub is_by : ℕ → Entry → Bool
is_by n (entry.Begin m k method params seed) = n == m
is_by n (entry.Step m k) = n == m
is_by n (entry.Admin op) = false

abbrev pub IsUpTo : ℕ → Entry → Type 0
IsUpTo n (entry.Begin m k method params seed) = m ≤ n
IsUpTo n (entry.Step m k) = m ≤ n
IsUpTo n (entry.Admin op) = Unit {0}

-- it is of a session of at most this number
abbrev pub AreUpTo : ℕ → List Entry → Type 0
AreUpTo n [] = Unit {0}
AreUpTo n (e ∷ h) = IsUpTo n e × AreUpTo n h

abbrev pub Is : World → List ℕ → Conn → Type 0
Is w name c = conn_of w name ≡ Some c

-- each client has a number of its own, no entry is of a session to come, and the clients are by name
pub record IsNumbered (w : World) : Type 0 where
  pub below : (name : List ℕ) (c : Conn) → Is w name c → c.number ≤ w.opened
  pub apart : (a b : List ℕ) (c d : Conn) → Is w a c → Is w b d → c.number ≡ d.number → a ≡ b
  pub entries : AreUpTo w.opened w.history
  pub order : IsSorted text_cmp w.conns

-- what is handed in with what is asked of a client: values of at most 32 levels
abbrev pub IsAsk : Ask → Type 0
IsAsk (ask.subscribe id name params) = AreValues (vals_of params) × AreShallow params
IsAsk (ask.call name params) = AreValues (vals_of params) × AreShallow params
IsAsk a = Unit {0}

abbrev pub All : (App → List Entry → Conn → Type 0) → World → Type 0
All P w = (name : List ℕ) (c : Conn) → Is w name c → P w.app w.history c

-- What holds of a history, and of each client with its session over it, is kept: by a client that begins, whose number no entry has; by each act of
-- a client; by an entry that isn't of its session;
-- by what is asked of it; and by an operation that isn't refused.
pub record IsKept (Q : App → List Entry → Type 0) (P : App → List Entry → Conn → Type 0) : Type 0 where
  pub new : (app : App) (n : ℕ) (h : List Entry) → AreUpTo n h → P app h (new_conn (suc n))
  pub entered : (app : App) (h : List Entry) (c : Conn) (a : Act) → can app h c a ≡ true → Q app h → P app h c → Q app (h ++ entries app h c a)
  pub acts : (app : App) (h : List Entry) (c : Conn) (a : Act) → can app h c a ≡ true → P app h c → P app (h ++ entries app h c a) (does app h c a)
  pub longer : (app : App) (h : List Entry) (c : Conn) (e : Entry) → is_by c.number e ≡ false → P app h c → P app (h ++ e ∷ []) c
  pub asks : (app : App) (h : List Entry) (c : Conn) (a : Ask) → IsAsk a → can_ask c a ≡ true → P app h c → P app h (asked app c a)
  pub operations : (w : World) (op : List Val) → AreValues (vals_of op) → refusal_of w op ≡ None → Q w.app w.history →
      Q w.app (w.history ++ entry.Admin op ∷ [])

-- ---- numbers are kept

abbrev AreBy : ℕ → List Entry → Type 0
AreBy n [] = Unit {0}
AreBy n (e ∷ es) = ((m : ℕ) → (m == n) ≡ false → is_by m e ≡ false) × ((o : ℕ) → n ≤ o → IsUpTo o e) × AreBy n es

begun_by : (app : App) (h : List Entry) (n : ℕ) (o : Option Blocking) → AreBy n (begun app h n o)
begun_by app h n None = tt
begun_by app h n (Some b) =
    elim (is_refused app h b) as (λ r. AreBy n (cond r [] (begin_entry n b ∷ []))) [ true ↦ tt | false ↦ (λ m apart. apart, λ o l. l, tt) ]

own_entries : (app : App) (h : List Entry) (c : Conn) (a : Act) → AreBy c.number (entries app h c a)
own_entries app h c act.Begin = begun_by app h c.number (unbegun app h c)
own_entries app h c (act.Step k) = (λ m apart. apart, λ o l. l, tt)
own_entries app h c a = tt

upto_more : (n o : ℕ) (h es : List Entry) → AreBy n es → n ≤ o → AreUpTo o h → AreUpTo o (h ++ es)
upto_more n o [] [] b l p = tt
upto_more n o [] (e ∷ es) b l p = (b.1 o l, upto_more n o [] es b.2 l tt)
upto_more n o (e ∷ h) es b l p = (p.0, upto_more n o h es b l p.1)

upto_suc : (o : ℕ) (h : List Entry) → AreUpTo o h → AreUpTo (suc o) h
upto_suc o [] p = tt
upto_suc o (entry.Begin m k method params seed ∷ h) p = (omega (arith, p.0), upto_suc o h p.1)
upto_suc o (entry.Step m k ∷ h) p = (omega (arith, p.0), upto_suc o h p.1)
upto_suc o (entry.Admin op ∷ h) p = (tt, upto_suc o h p.1)

upto_operation : (o : ℕ) (h : List Entry) (op : List Val) → AreUpTo o h → AreUpTo o (h ++ entry.Admin op ∷ [])
upto_operation o [] op p = (tt, tt)
upto_operation o (e ∷ h) op p = (p.0, upto_operation o h op p.1)

-- a client of the new map is the new one, or an old one of another name
put_is : {A : Type 0} (conns : List (List ℕ × Conn)) (name : List ℕ) (d : Conn) (q : List ℕ) (c : Conn) →
    at text_cmp (insert_entry text_cmp conns name d) q ≡ Some c → (q ≡ name → d ≡ c → A) →
    (eq_by_cmp text_cmp q name ≡ false → at text_cmp conns q ≡ Some c → A) → A
put_is {A} conns name d q c e mine other =
    elim (eq_by_cmp text_cmp q name) as (λ b. eq_by_cmp text_cmp q name ≡ b → cond b (Some d) (at text_cmp conns q) ≡ Some c → A) [
      | true ↦ λ is h. mine (key_is name_order q name is) (cc h)
      | false ↦ λ is h. other is h
    ] refl (sym (at-put name_order conns name d q) ∙ e)

differs : (a b : List ℕ) → eq_by_cmp text_cmp a b ≡ false → a ≡ b → ⊥
differs a b e same = let t : true ≡ false = sym (eq_by_cmp-self name_order b) ∙ (ap (λ x. eq_by_cmp text_cmp x b) (sym same) ∙ e) in cc t

up_number : (c : Conn) (ts : List (List ℕ)) → (goes_up c ts).number ≡ c.number
up_number c [] = refl
up_number c (t ∷ ts) = refl

as_number : (app : App) (h : List Entry) (c : Conn) (bytes : ℕ) (t : Taken) → (received_as app h c bytes t).number ≡ c.number
as_number app h c bytes (at_once i) = refl
as_number app h c bytes (to_queue message) = refl

recv_number : (app : App) (h : List Entry) (c : Conn) (ts : List (List ℕ)) → (receives app h c ts).number ≡ c.number
recv_number app h c [] = refl
recv_number app h c (t ∷ ts) = as_number app h (record c { upward = ts; received = c.received ++ t ∷ [] }) (length t) (taken_text (state_in c).connected t)

handle_number : (app : App) (h : List Entry) (c : Conn) (ws : List Waiting) → (handles app h c ws).number ≡ c.number
handle_number app h c [] = refl
handle_number app h c (w ∷ ws) = refl

item_number : (app : App) (h : List Entry) (c : Conn) (o : Option Item) → (learns_item app h c o).number ≡ c.number
item_number app h c None = refl
item_number app h c (Some i) = refl

send_number : (c : Conn) (ts : List (List ℕ)) → (sends c ts).number ≡ c.number
send_number c [] = refl
send_number c (t ∷ ts) = refl

take_number : (c : Conn) (ts : List (List ℕ)) → (takes c ts).number ≡ c.number
take_number c [] = refl
take_number c (t ∷ ts) = refl

pub same_number : (app : App) (h : List Entry) (c : Conn) (a : Act) → (does app h c a).number ≡ c.number
same_number app h c act.Up = up_number c c.client.waiting
same_number app h c act.Recv = recv_number app h c c.upward
same_number app h c act.Handle = handle_number app h c c.queue
same_number app h c act.Begin = refl
same_number app h c (act.Step k) = refl
same_number app h c (act.Learn k place) = item_number app h (record c { kept = if is_kept k c.kept then None else c.kept }) (learnt app h c k place)
same_number app h c (act.Load sub place) = refl
same_number app h c (act.Advance sub count) = refl
same_number app h c act.Send = send_number c c.outbox
same_number app h c act.Take = take_number c c.downward

same_asked : (app : App) (c : Conn) (a : Ask) → (asked app c a).number ≡ c.number
same_asked app c (ask.subscribe id name params) = refl
same_asked app c (ask.unsubscribe id) = refl
same_asked app c (ask.call name params) = refl
same_asked app c (ask.raw t) = refl
same_asked app c ask.drop = refl

-- another client in the place of one with the same number
numbered_put : (w : World) (name : List ℕ) (c d : Conn) (h : List Entry) → Is w name c → d.number ≡ c.number → AreUpTo w.opened h → IsNumbered w →
    IsNumbered (record w { history = h; conns = insert_entry text_cmp w.conns name d })
numbered_put w name c d h is same upto p = record {
  below = λ q x e. put_is w.conns name d q x e
      (λ i s. subst (λ (y : Conn). y.number ≤ w.opened) s (subst (λ n. n ≤ w.opened) (sym same) (p.below name c is))) (λ i e2. p.below q x e2);
  apart = λ q r x y ex ey s. put_is w.conns name d q x ex
      (λ iq sx. put_is w.conns name d r y ey (λ ir sy. iq ∙ sym ir) (λ ir e2. iq ∙ p.apart name r c y is e2 (sym same ∙ (ap (λ (z : Conn). z.number) sx ∙ s))))
      (λ iq e1. put_is w.conns name d r y ey (λ ir sy. p.apart q name x c e1 is (s ∙ (sym (ap (λ (z : Conn). z.number) sy) ∙ same)) ∙ sym ir)
      (λ ir e2. p.apart q r x y e1 e2 s));
  entries = upto;
  order = sorted-put name_order w.conns name d p.order;
}

-- ---- every act

module _ (Q : App → List Entry → Type 0) (P : App → List Entry → Conn → Type 0) (k : IsKept Q P) where
  pub record Holds (w : World) : Type 0 where
    pub numbered : IsNumbered w
    pub history : Q w.app w.history
    pub all : All P w

  longer_by : (app : App) (n : ℕ) (es h : List Entry) (d : Conn) → AreBy n es → (d.number == n) ≡ false → P app h d → P app (h ++ es) d
  longer_by app n [] h d b apart p = subst (λ (x : List Entry). P app x d) (sym (append-nil h)) p
  longer_by app n (e ∷ es) h d b apart p = subst (λ (x : List Entry). P app x d) (append_assoc h (e ∷ []) es)
      (longer_by app n es (h ++ e ∷ []) d b.2 apart (k.longer app h d e (b.0 d.number apart) p))

  acted_holds : (w : World) (name : List ℕ) (a : Act) (c : Conn) → Is w name c → can w.app w.history c a ≡ true → Holds w → Holds (acted w name a c)
  acted_holds w name a c is may p =
      let h = w.history in
      let es = entries w.app h c a in
      let d = does w.app h c a in
      record {
        numbered = numbered_put w name c d (h ++ es) is (same_number w.app h c a)
            (upto_more c.number w.opened h es (own_entries w.app h c a) (p.numbered.below name c is) p.numbered.entries) p.numbered;
        history = k.entered w.app h c a may p.history (p.all name c is);
        all = λ q x e. put_is w.conns name d q x e
            (λ i s. subst (P w.app (h ++ es)) s (k.acts w.app h c a may (p.all name c is)))
            (λ i e2. longer_by w.app c.number es h x (own_entries w.app h c a)
            (ne_eqb x.number c.number (λ s. differs q name i (p.numbered.apart q name x c e2 is s))) (p.all q x e2));
      }

  done_by_holds : (w : World) (name : List ℕ) (a : Act) (o : Option Conn) → conn_of w name ≡ o → Holds w → Holds (done_by w name a o)
  done_by_holds w name a None is p = p
  done_by_holds w name a (Some c) is p =
      elim (can w.app w.history c a) as
      (λ b. can w.app w.history c a ≡ b → Holds (cond b (acted w name a c) w)) [ true ↦ λ may. acted_holds w name a c is may p | false ↦ λ may. p ] refl

  pub done_holds : (e : List ℕ × Act) (w : World) → Holds w → Holds (done e w)
  done_holds e w p = done_by_holds w e.0 e.1 (conn_of w e.0) refl p

  -- ---- what is asked, and a client that begins

  asked_holds : (w : World) (name : List ℕ) (a : Ask) (c : Conn) → Is w name c → IsAsk a → can_ask c a ≡ true → Holds w →
      Holds (with_conn w name (asked w.app c a))
  asked_holds w name a c is good may p =
      let d = asked w.app c a in
      record {
        numbered = numbered_put w name c d w.history is (same_asked w.app c a) p.numbered.entries p.numbered;
        history = p.history;
        all = λ q x e. put_is w.conns name d q x e (λ i s. subst (P w.app w.history) s (k.asks w.app w.history c a good may (p.all name c is)))
            (λ i e2. p.all q x e2);
      }

  asked_by_holds : (w : World) (name : List ℕ) (a : Ask) (o : Option Conn) → IsAsk a → conn_of w name ≡ o → Holds w → Holds (asked_by w name a o)
  asked_by_holds w name a None good is p = p
  asked_by_holds w name a (Some c) good is p =
      elim (can_ask c a) as
      (λ b. can_ask c a ≡ b → Holds (cond b (with_conn w name (asked w.app c a)) w))
      [ true ↦ λ may. asked_holds w name a c is good may p | false ↦ λ may. p ] refl

  asked_in_holds : (name : List ℕ) (a : Ask) (w : World) → IsAsk a → Holds w → Holds (asked_in name a w)
  asked_in_holds name a w good p = asked_by_holds w name a (conn_of w name) good refl p

  opened_holds : (w : World) (name : List ℕ) → Holds w → Holds (opened_with w name)
  opened_holds w name p =
      let d = new_conn (suc w.opened) in
      record {
        numbered = record {
          below = λ q x e. put_is w.conns name d q x e (λ i s. subst (λ (y : Conn). y.number ≤ suc w.opened) s (omega arith))
              (λ i e2. omega (arith, p.numbered.below q x e2));
          apart = λ q r x y ex ey s. put_is w.conns name d q x ex
              (λ iq sx. put_is w.conns name d r y ey (λ ir sy. iq ∙ sym ir)
              (λ ir e2. absurd (omega (arith, ap (λ (z : Conn). z.number) sx, s, p.numbered.below r y e2))))
              (λ iq e1. put_is w.conns name d r y ey (λ ir sy. absurd (omega (arith, ap (λ (z : Conn). z.number) sy, s, p.numbered.below q x e1)))
              (λ ir e2. p.numbered.apart q r x y e1 e2 s));
          entries = upto_suc w.opened w.history p.numbered.entries;
          order = sorted-put name_order w.conns name d p.numbered.order;
        };
        history = p.history;
        all = λ q x e. put_is w.conns name d q x e (λ i s. subst (P w.app w.history) s (k.new w.app w.opened w.history p.numbered.entries))
            (λ i e2. p.all q x e2);
      }

  opens_holds : (w : World) (name : List ℕ) → Holds w → Holds (opens w name)
  opens_holds w name p = elim (can_open w name) as (λ b. Holds (cond b (opened_with w name) w)) [ true ↦ opened_holds w name p | false ↦ p ]

  -- ---- rounds

  made_holds : (as_ : List (List ℕ × Act)) (w : World) → Holds w → Holds (rounds.made done as_ w)
  made_holds [] w p = p
  made_holds (a ∷ as_) w p = made_holds as_ (done a w) (done_holds a w p)

  through_holds : (ps : List (World → List (List ℕ × Act))) (w : World) → Holds w → Holds (rounds.through done ps w)
  through_holds [] w p = p
  through_holds (q ∷ ps) w p = through_holds ps (rounds.made done (q w) w) (made_holds (q w) w p)

  pub round_holds : (w : World) → Holds w → Holds (round w)
  round_holds w p = through_holds (phases w) w p

  often_holds : (f : World → World) → ((w : World) → Holds w → Holds (f w)) → (n : ℕ) (w : World) → Holds w → Holds (often n f w)
  unfolding often
  often_holds f h zero w p = p
  often_holds f h (suc n) w p = h (often n f w) (often_holds f h n w p)

  tower_holds : (ms : List (World → ℕ)) (f : World → World) → ((w : World) → Holds w → Holds (f w)) → (w : World) → Holds w → Holds (tower f ms w)
  tower_holds [] f h w p = h w p
  tower_holds (m ∷ ms) f h w p = tower_holds ms (raised f m) (λ v q. often_holds f h (suc (m v)) v q) w p

  -- ---- every event

  done_if_holds : (w : World) (name : List ℕ) (o : Option Act) → Holds w → Holds (done_if w name o)
  done_if_holds w name None p = p
  done_if_holds w name (Some a) p = done_holds (name, a) w p

  acts_hold : (w : World) (name : List ℕ) (e : Event) → Holds w → Holds (acts w name e)
  acts_hold w name e p = done_if_holds w name (act_by w name e) p

  entered_holds : (w : World) (op : List Val) (o : Option ℕ) → AreValues (vals_of op) → refusal_of w op ≡ o → Holds w → Holds (entered_by w op o)
  entered_holds w op (Some code) good is p = p
  entered_holds w op None good is p = record {
    numbered = record {
      below = p.numbered.below;
      apart = p.numbered.apart;
      entries = upto_operation w.opened w.history op p.numbered.entries;
      order = p.numbered.order;
    };
    history = k.operations w op good is p.history;
    all = λ q c e. k.longer w.app w.history c (entry.Admin op) refl (p.all q c e);
  }

  pub step_holds : (w : World) (e : Event) → IsEvent e → Holds w → Holds (step w e)
  step_holds w (event.Client name) good p = opens_holds w name p
  step_holds w (event.Sub name id publication params) good p = asked_in_holds name (ask.subscribe id publication params) w good p
  step_holds w (event.Unsub name id) good p = asked_in_holds name (ask.unsubscribe id) w tt p
  step_holds w (event.Call name method params) good p = asked_in_holds name (ask.call method params) w good p
  step_holds w (event.Raw name t) good p = asked_in_holds name (ask.raw t) w tt p
  step_holds w (event.Drop name) good p = asked_in_holds name ask.drop w tt p
  step_holds w (event.Do name a) good p = acts_hold w name (event.Do name a) p
  step_holds w (event.Step name n) good p = acts_hold w name (event.Step name n) p
  step_holds w (event.Learn name n place) good p = acts_hold w name (event.Learn name n place) p
  step_holds w (event.Load name id place) good p = acts_hold w name (event.Load name id place) p
  step_holds w (event.Advance name id count) good p = acts_hold w name (event.Advance name id count) p
  step_holds w (event.Admin op) good p = entered_holds w op (refusal_of w op) good.0 refl p
  step_holds w event.Settle good p = tower_holds measures round round_holds w p
  step_holds w (event.Show name) good p = p
  step_holds w (event.Journal name) good p = p
  step_holds w event.Store good p = p
  step_holds w event.History good p = p

  pub start_holds : (app : App) → Q app [] → Holds (start app)
  start_holds app q = record {
    numbered = record { below = λ q c e. cc e; apart = λ a b c d e f s. cc e; entries = tt; order = sorted-nil text_cmp };
    history = q;
    all = λ q c e. cc e;
  }

  pub run_holds : (w : World) (events : List Event) → AreEvents events → Holds w → Holds (run w events)
  run_holds w [] good p = p
  run_holds w (e ∷ events) good p = run_holds (step w e) events good.1 (step_holds w e good.0 p)

  pub every_world : (app : App) (events : List Event) → AreEvents events → Q app [] → Holds (run (start app) events)
  every_world app events good q = run_holds (start app) events good (start_holds app q)
