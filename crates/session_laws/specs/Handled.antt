-- A message that is handled keeps what a session stands for.
use Rattle.std.specs.Prelude.{◌≡◌, ℕ, ◌<◌, ◌==◌, List, [], ◌∷◌, ◌++◌, drop, length, not, Bool, true, false, cond, Option, Some, None, is_some, Ok, Err, refl}
use Rattle.std.proofs.Common.{ap, sym, subst, ◌∙◌}
use Rattle.merge_model.specs.Publishing.{shown}
use Rattle.ejson_value.specs.Key.{key_cmp}
use Rattle.ddp_messages.specs.ClientMessage.{ClientMessage}
use Rattle.ddp_messages.specs.ClientMessage as client
use Rattle.publication.specs.Cursors.{ACursors}
use Rattle.app_model.specs.App.{App, method}
use Rattle.live_observer.specs.Observing.{AnObserver}
use Rattle.session_model.specs.declared.fault.SubFault.{SubFault}
use Rattle.session_model.specs.declared.fault.SubFault.TheVariants as fault
use Rattle.session_model.specs.Publication.{Making, making}
use Rattle.session_model.specs.Items.{Item, id_of, name_of, params_of, handled_by}
use Rattle.session_model.specs.Items as item
use Rattle.session_model.specs.Subscriptions.{Live, closed, sub_named, is_crowded}
use Rattle.session_model.specs.State.{State, opening, own_after, after, state_of}
use Rattle.session_model.specs.Moments.{Moment}
use Rattle.session_model.specs.Shown.{shown_at, shown_in, calls_of}
use Rattle.session_model.specs.Out.{own_messages}
use Rattle.session_model.specs.Fits.{seed_or, opened_by, closed_by, item_for, CanFollow, IsHandled}
use Rattle.session_model.specs.Answering.{is_at_once}
use Rattle.session_journal_laws.specs.Live.{same_opened}
use Rattle.session_journal_laws.specs.Shows.{AreInOrder}
use Rattle.session_journal_laws.specs.Resolved.{resolved, called, seed_in, message_at, cursors_in, IsPlaced}
use Rattle.session_journal_laws.specs.Stands.{items_of}
use Rattle.session_journal_laws.specs.RelationKeeping.{shows_end}
use Rattle.session_journal_laws.specs.RelationEvents.{shows_idle, later_stands}
use Rattle.session_model.specs.Observers.{observers_without}
use Rattle.session_laws.specs.Storing.{kept_as}
use Rattle.session_laws.specs.Session.{ASession}
use Rattle.session_laws.specs.Meaning.{is_request, AreFrom, AreOpen, IsWatched, AreWatched}
use Rattle.session_laws.specs.Events.{Keeps, plain_call, observers_after, IsHandledAs, HasHandled}
use Rattle.session_laws.specs.TakingLaws.{open_after, open_less}
use Rattle.session_laws.specs.Keeping.{ids_added}

-- ---- which items a message makes

module _ (P : Item → Type 0) (app : App) (number : ℕ) (st : State) (m : ClientMessage) (same : P (item.same m))
    (nosub : (f : Option SubFault) → P (item.nosub m f))
    (opens : (cursors : ACursors) → making app (name_of m) (params_of m) ≡ Ok cursors → P (item.subscribe st.opened m cursors))
    (closes : (s : ℕ) → P (item.close s m))
    (calls : P (item.call (length st.methods) m (seed_or number (length st.methods) (seed_in m)))) (unknown : P (item.unknown m)) where
  if_opened : (made : Making) → making app (name_of m) (params_of m) ≡ made → P (opened_by st.opened m made)
  if_opened (Ok cursors) e = opens cursors e
  if_opened (Err f) e = nosub (Some f)

  if_closed : (o : Option ℕ) → P (closed_by m o)
  if_closed None = nosub None
  if_closed (Some s) = closes s

  if_sub : (a b : Bool) → P (cond a (item.same m) (cond b (item.nosub m (Some fault.TooMany)) (opened_by st.opened m (making app (name_of m) (params_of m)))))
  if_sub true b = same
  if_sub false true = nosub (Some fault.TooMany)
  if_sub false false = if_opened (making app (name_of m) (params_of m)) refl

  if_method : (a : Bool) → P (cond a (item.call (length st.methods) m (seed_or number (length st.methods) (seed_in m))) (item.unknown m))
  if_method true = calls
  if_method false = unknown

pub item_cases : (P : Item → Type 0) (app : App) (number : ℕ) (st : State) (m : ClientMessage) → is_request m ≡ true → P (item.same m) →
    ((f : Option SubFault) → P (item.nosub m f)) →
    ((cursors : ACursors) → making app (name_of m) (params_of m) ≡ Ok cursors → P (item.subscribe st.opened m cursors)) → ((s : ℕ) → P (item.close s m)) →
    P (item.call (length st.methods) m (seed_or number (length st.methods) (seed_in m))) → P (item.unknown m) → P (item_for app number st m)
item_cases P app number st (client.sub id name params) w same nosub opens closes calls unknown =
    if_sub P app number st (client.sub id name params) same nosub opens closes calls unknown (is_some (sub_named id st.subs)) (is_crowded st.subs)
item_cases P app number st (client.unsub id) w same nosub opens closes calls unknown =
    if_closed P app number st (client.unsub id) same nosub opens closes calls unknown (sub_named id st.subs)
item_cases P app number st (client.method id name params seed) w same nosub opens closes calls unknown =
    if_method P app number st (client.method id name params seed) same nosub opens closes calls unknown (is_some (method app name))
item_cases P app number st m w same nosub opens closes calls unknown = cc w

-- ---- such an item

-- it handles the message in its turn, and says the same over each store
pub record IsTurn (m : ClientMessage) (i : Item) : Type 0 where
  pub handles : handled_by i ≡ m ∷ []
  pub later : is_at_once i ≡ false
  pub placed : (n place : ℕ) → place < n → IsPlaced n (kept_as place i)
  pub says : (C : List Moment) (number : ℕ) (st : State) → own_messages [] number st i ≡ own_messages C number st i

pub in_turn : (app : App) (number : ℕ) (st : State) (m : ClientMessage) → is_request m ≡ true → IsTurn m (item_for app number st m)
in_turn app number st m w = item_cases (IsTurn m) app number st m w
    (record { handles = refl; later = refl; placed = λ n place less. less; says = λ C k s. refl })
    (λ f. record { handles = refl; later = refl; placed = λ n place less. less; says = λ C k s. refl })
    (λ cursors e. record { handles = refl; later = refl; placed = λ n place less. less; says = λ C k s. refl })
    (λ s. record { handles = refl; later = refl; placed = λ n place less. less; says = λ C k s. refl })
    (record { handles = refl; later = refl; placed = λ n place less. less; says = λ C k s. refl })
    (record { handles = refl; later = refl; placed = λ n place less. less; says = λ C k s. refl })

-- what is kept of it reads as the item, by the message's text
pub read_back : (app : App) (number : ℕ) (taken : List (List ℕ)) (place : ℕ) (st : State) (m : ClientMessage) → is_request m ≡ true →
    message_at taken place ≡ m →
    resolved app number taken (kept_as place (item_for app number st m)) ≡ item_for app number st m
read_back app number taken place st m w e = item_cases (λ (i : Item). resolved app number taken (kept_as place i) ≡ i) app number st m w
    (ap (λ (x : ClientMessage). item.same x) e)
    (λ f. ap (λ (x : ClientMessage). item.nosub x f) e)
    (λ cursors is. ap (λ (x : ClientMessage). item.subscribe st.opened x (cursors_in (making app (name_of x) (params_of x)))) e
    ∙ ap (λ (x : Making). item.subscribe st.opened m (cursors_in x)) is)
    (λ s. ap (λ (x : ClientMessage). item.close s x) e)
    (ap (called number (length st.methods)) e)
    (ap (λ (x : ClientMessage). item.unknown x) e)

-- ---- what the subscriptions show then

shows_none : (C : List Moment) (s : ℕ) (ls : List Live) → shown_in C (closed s ls) s ≡ []
shows_none C s [] = refl
shows_none C s (l ∷ ls) = elim (s == l.sub) as (λ b. s == l.sub ≡ b → shown_in C (cond (not b) (l ∷ closed s ls) (closed s ls)) s ≡ []) [
  | true ↦ λ e. shows_none C s ls
  | false ↦ λ e. ap (λ (b : Bool). cond b (shown_at C l.cursors l.cursor) (shown_in C (closed s ls) s)) e ∙ shows_none C s ls
] refl

-- the call of the merge leads to that
pub plain_shows : (C : List Moment) → AreInOrder C → (app : App) (number : ℕ) (items : List Item) (m : ClientMessage) → is_request m ≡ true →
    let i = item_for app number (state_of items) m in (r : ℕ) → shown key_cmp (plain_call i ∷ calls_of C items) r ≡ shown_in C (after (state_of items) i).subs r
plain_shows C order app number items m w =
    let st = state_of items in item_cases
    (λ (i : Item). (r : ℕ) → shown key_cmp (plain_call i ∷ calls_of C items) r ≡ shown_in C (after st i).subs r) app number st m w
    (shows_idle C order items (item.same m) refl refl)
    (λ f. shows_idle C order items (item.nosub m f) refl refl)
    (λ cursors is. shows_idle C order items (item.subscribe st.opened m cursors) refl
    (sym (same_opened (λ (l : Live). shown_at C l.cursors l.cursor) [] 0 st.subs (opening st st.opened m cursors) refl)))
    (λ s. shows_end C order items (item.close s m) (shows_none C s st.subs))
    (shows_idle C order items (item.call (length st.methods) m (seed_or number (length st.methods) (seed_in m))) refl refl)
    (shows_idle C order items (item.unknown m) refl refl)

-- ---- what else it leaves

watched_append : (C : List Moment) (ls : List Live) (os : List (Option AnObserver)) (l : Live) → l.cursor ≡ None → AreWatched C ls os →
    AreWatched C (ls ++ l ∷ []) (os ++ None ∷ [])
watched_append C [] [] l e w = (subst (λ c. IsWatched C l c None) (sym e) refl, tt)
watched_append C [] (o ∷ os) l e w = absurd w
watched_append C (x ∷ ls) [] l e w = absurd w
watched_append C (x ∷ ls) (o ∷ os) l e w = (w.0, watched_append C ls os l e w.1)

watched_closed : (C : List Moment) (s : ℕ) (ls : List Live) (os : List (Option AnObserver)) → AreWatched C ls os →
    AreWatched C (closed s ls) (observers_without s ls os)
watched_closed C s [] [] w = tt
watched_closed C s [] (o ∷ os) w = absurd w
watched_closed C s (x ∷ ls) [] w = absurd w
watched_closed C s (x ∷ ls) (o ∷ os) w = elim (s == x.sub) as
    (λ b. AreWatched C (cond (not b) (x ∷ closed s ls) (closed s ls)) (cond b (observers_without s ls os) (o ∷ observers_without s ls os))) [
      | true ↦ watched_closed C s ls os w.1
      | false ↦ (w.0, watched_closed C s ls os w.1)
    ]

watched_after : (C : List Moment) (app : App) (number : ℕ) (st : State) (m : ClientMessage) (os : List (Option AnObserver)) → is_request m ≡ true →
    AreWatched C st.subs os →
    AreWatched C (own_after st (item_for app number st m)).subs (observers_after (item_for app number st m) st.subs os)
watched_after C app number st m os w h = item_cases (λ (i : Item). AreWatched C (own_after st i).subs (observers_after i st.subs os)) app number st m w
    h (λ f. h) (λ cursors is. watched_append C st.subs os (opening st st.opened m cursors) refl h) (λ s. watched_closed C s st.subs os h) h h

may_follow : (C : List Moment) (app : App) (number : ℕ) (st : State) (m : ClientMessage) → is_request m ≡ true →
    IsHandled app number st m (item_for app number st m) → CanFollow app number C st (item_for app number st m)
may_follow C app number st m w = item_cases (λ (i : Item). IsHandled app number st m i → CanFollow app number C st i) app number st m w (λ h. h)
    (λ f h. h) (λ cursors is h. h) (λ s h. h) (λ h. h) (λ h. h)

tail_from : (taken : List (List ℕ)) (ps : List ℕ) (ms : List ClientMessage) → AreFrom taken ps ms → AreFrom taken (drop 1 ps) (drop 1 ms)
tail_from taken [] [] f = f
tail_from taken [] (m ∷ ms) f = absurd f
tail_from taken (p ∷ ps) [] f = absurd f
tail_from taken (p ∷ ps) (m ∷ ms) f = f.1

module _ (old new : ASession) (free : old.carried.own.blocking ≡ None) where
  handled_by_place : (place : ℕ) (m : ClientMessage) (places : List ℕ) (ms : List ClientMessage) → old.places ≡ place ∷ places →
      old.carried.waiting ≡ m ∷ ms → IsHandledAs place m old new → Keeps old new
  handled_by_place place m places ms first waiting a taken C sent k =
      let app = old.carried.app in
      let number = old.carried.number in
      let own = old.carried.own in
      let i = item_for app number own m in
      let items = items_of taken old.carried in
      let from : AreFrom taken (place ∷ places) (m ∷ ms) =
      subst (λ (ps : List ℕ). AreFrom taken ps (m ∷ ms)) first (subst (λ (xs : List ClientMessage). AreFrom taken old.places xs) waiting k.from) in
      let f = from.0 in
      let reads : resolved app number taken (kept_as place i) ≡ i = read_back app number taken place own m f.waits f.says in
      let turn = in_turn app number own m f.waits in
      let connected : own.connected ≡ true = subst (λ (xs : List ClientMessage). AreOpen own.connected xs) waiting k.connected in
      let rest : new.carried.waiting ≡ ms = a.waiting ∙ ap (drop 1) waiting in
      let shows : (r : ℕ) → shown key_cmp (plain_call i ∷ calls_of C items) r ≡ shown_in C (after (state_of items) i).subs r =
      subst (λ (st : State). (r : ℕ) → shown key_cmp (plain_call (item_for app number st m) ∷ calls_of C items) r ≡ shown_in C
      (after (state_of items) (item_for app number st m)).subs r) (sym k.stands.own) (plain_shows C k.order app number items m f.waits) in
      record {
        order = k.order;
        stands = later_stands taken C sent old.carried new.carried (kept_as place i) (plain_call i) (own_after own i)
            (own_messages [] number own i) k.order k.stands a.done.added (ap is_at_once reads ∙ turn.later) a.taken
            (waiting ∙ (ap (λ (xs : List ClientMessage). m ∷ xs) (sym rest)
            ∙ ap (λ (xs : List ClientMessage). xs ++ new.carried.waiting) (sym (ap handled_by reads ∙ turn.handles))))
            (turn.placed (length taken) place f.within)
            (subst (CanFollow app number C own) (sym reads)
            (may_follow C app number own m f.waits (record { connected = connected; free = free; short = f.short; made = refl })))
            (ap (own_after own) (sym reads)) (turn.says C number own ∙ ap (own_messages C number own) (sym reads))
            (subst (λ (j : Item). (r : ℕ) → shown key_cmp (plain_call i ∷ calls_of C items) r ≡ shown_in C (after (state_of items) j).subs r)
            (sym reads) shows);
        ids = ids_added taken (kept_as place i) i (plain_call i) (own_after own i) (own_messages [] number own i) old new a.done reads k.ids;
        from = subst (λ (ps : List ℕ). AreFrom taken ps new.carried.waiting) (sym a.places)
            (subst (λ (xs : List ClientMessage). AreFrom taken (drop 1 old.places) xs) (sym a.waiting) (tail_from taken old.places old.carried.waiting k.from));
        connected = subst (λ (xs : List ClientMessage). AreOpen new.carried.own.connected xs) (sym a.waiting)
            (open_less new.carried.own.connected old.carried.waiting
            (open_after own i new.carried.own.connected old.carried.waiting (ap (λ (st : State). st.connected) a.done.added.own) k.connected));
        watched = subst (λ (os : List (Option AnObserver)). AreWatched C new.carried.own.subs os) (sym a.observers)
            (subst (λ (ls : List Live). AreWatched C ls (observers_after i own.subs old.observers))
            (sym (ap (λ (st : State). st.subs) a.done.added.own)) (watched_after C app number own m old.observers f.waits k.watched));
      }

  by : (places : List ℕ) (ms : List ClientMessage) → old.places ≡ places → old.carried.waiting ≡ ms → HasHandled places ms old new → Keeps old new
  by [] ms first waiting a = absurd a
  by (place ∷ places) [] first waiting a = absurd a
  by (place ∷ places) (m ∷ ms) first waiting a = handled_by_place place m places ms first waiting a

  pub handled_keeps : HasHandled old.places old.carried.waiting old new → Keeps old new
  handled_keeps a = by old.places old.carried.waiting refl refl a
