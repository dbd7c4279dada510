-- What a session keeps still holds after an item.
use Rattle.std.proofs.Common.{◌≡◌, ℕ, suc, ◌+◌, ◌<◌, ◌≤◌, List, [], ◌∷◌, length, map, Bool, false, Option, refl, ap, sym, subst, ◌∙◌, arith}
use Rattle.std.specs.Prelude.{option_map}
use Rattle.std.proofs.lemmas.Bool.{leb-false}
use Rattle.std.proofs.lemmas.List.{length-map, length-append}
use Rattle.merge_model.specs.Publishing.{Call}
use Rattle.value_model.specs.Val.{Entries}
use Rattle.ejson_value.specs.declared.key.Key.{Key}
use Rattle.app_model.specs.App.{App}
use Rattle.ddp_messages.specs.ClientMessage.{ClientMessage}
use Rattle.ddp_messages.specs.ServerMessage.{ServerMessage}
use Rattle.merge_box.specs.State.{KeptDocs}
use Rattle.ddp_messages.specs.Texts.{server_text}
use Rattle.session_core.specs.session_model.Items.{Item}
use Rattle.session_core.specs.session_model.Out.{own_messages}
use Rattle.method_queue.specs.Queue.{Waiting, Queue}
use Rattle.session_core.specs.session_model.Methods.{Blocking}
use Rattle.session_core.specs.session_model.State.{State, own_after}
use Rattle.session_core.specs.session_journal_laws.declared.stored.Stored.{Stored}
use Rattle.session_state.specs.declared.journal.Line.{Line}
use Rattle.session_state.specs.Journal.{AJournal, items_of}
use Rattle.session_core.specs.session_state.Own.{as_state, stepped, Watch}
use Rattle.session_core.specs.session_state.Subs.{observers_of}
use Rattle.session_core.specs.declared.adding.Addition.{Addition}
use Rattle.session_core.specs.session_journal_laws.Stands.{fired_state}
use Rattle.session_core.specs.Parts.{line_of, AreSame, HasGained}
use Rattle.session_core.specs.session_laws.Session.{ASession, is_full, max_items}
use Rattle.session_core.specs.session_laws.Adding.{HasAdded}
use Rattle.session_core.specs.session_laws.Storing.{kept_as, shown_id}
use Rattle.session_core.specs.session_laws.Events.{HasDone, Waits}
use Rattle.session_core.specs.declared.inner.Inner.{Inner}
use Rattle.session_core.specs.Kept.{seen, IsCounted, IsKept}
use Rattle.session_core.specs.Adding.{StaysElse, Follows, IsAddedTo, AreAlike}
use Rattle.session_core.proofs.Counted.{counted_after}
use Rattle.session_core.proofs.Gaining.{has_added}

pub room_left : (a : Inner) → is_full (seen a) ≡ false → length a.parts.journal.lines < max_items
room_left a e = subst (λ n. n < max_items) (length-map a.parts.journal.lines (λ (l : Line). l.item)) (leb-false max_items (length (map (λ (l : Line). l.item) a.parts.journal.lines)) e)

module _ (a : Addition) (call : Call Key Entries) (old new : Inner) (g : HasGained a call (stepped a.step (as_state old.parts.own)) old.parts new.parts) where
  pub one_line : length new.parts.journal.lines ≡ suc (length old.parts.journal.lines)
  one_line = ap length g.lines ∙ omega (arith, length-append old.parts.journal.lines (line_of a ∷ []))

  pub blocks_after : (as_state new.parts.own).blocking ≡ (stepped a.step (as_state old.parts.own)).blocking
  blocks_after = ap (λ (st : State). st.blocking) g.own

-- ---- parts that are the same

seen_alike : (old new : Inner) → AreSame old.parts new.parts → StaysElse old new → seen new ≡ seen old
seen_alike old new a s =
    let journal : items_of new.parts.journal.lines ≡ items_of old.parts.journal.lines = ap items_of a.lines in
    let ids : map (λ (l : Line). l.id) new.parts.journal.lines ≡ map (λ (l : Line). l.id) old.parts.journal.lines = ap (map (λ (l : Line). l.id)) a.lines in
    let waiting : map (λ (w : Waiting). w.message) new.queue.waiting ≡ map (λ (w : Waiting). w.message) old.queue.waiting = ap (λ (q : Queue). map (λ (w : Waiting). w.message) q.waiting) s.queue in
    let bytes : map (λ (w : Waiting). w.bytes) new.queue.waiting ≡ map (λ (w : Waiting). w.bytes) old.queue.waiting = ap (λ (q : Queue). map (λ (w : Waiting). w.bytes) q.waiting) s.queue in
    let x = seen old in
    let y = seen new in
    ap (λ (v : App). record y { carried = record y.carried { app = v } }) s.app
    ∙ (ap (λ (v : ℕ). record y { carried = record y.carried { app = old.app; number = v } }) s.number
    ∙ (ap (λ (v : ℕ). record y { carried = record y.carried { app = old.app; number = old.number; taken = v } }) s.taken
    ∙ (ap (λ (v : List Stored). record y { carried = record x.carried { journal = v; counts = new.parts.journal.counts; outbox = new.parts.outbox.items; waiting = y.carried.waiting; own = as_state new.parts.own; fences = new.parts.fences; box = new.parts.shown.kept } }) journal
    ∙ (ap (λ (v : List ℕ). record y { carried = record x.carried { counts = v; outbox = new.parts.outbox.items; waiting = y.carried.waiting; own = as_state new.parts.own; fences = new.parts.fences; box = new.parts.shown.kept } }) a.counts
    ∙ (ap (λ (v : List (List ℕ)). record y { carried = record x.carried { outbox = v; waiting = y.carried.waiting; own = as_state new.parts.own; fences = new.parts.fences; box = new.parts.shown.kept } }) a.outbox
    ∙ (ap (λ (v : List ClientMessage). record y { carried = record x.carried { waiting = v; own = as_state new.parts.own; fences = new.parts.fences; box = new.parts.shown.kept } }) waiting
    ∙ (ap (λ (v : State). record y { carried = record x.carried { own = v; fences = new.parts.fences; box = new.parts.shown.kept } }) a.own.state
    ∙ (ap (λ (v : List (ℕ × ℕ)). record y { carried = record x.carried { fences = v; box = new.parts.shown.kept } }) a.fences
    ∙ (ap (λ (v : KeptDocs). record y { carried = record x.carried { box = v } }) a.shown
    ∙ (ap (λ (v : List (Option (List ℕ))). record y { carried = x.carried; ids = v }) ids
    ∙ (ap (λ (v : List ℕ). record y { carried = x.carried; ids = x.ids; places = v }) s.places
    ∙ (ap (λ (v : List ℕ). record y { carried = x.carried; ids = x.ids; places = x.places; bytes = v }) bytes
    ∙ (ap (λ (v : Watch). record y { carried = x.carried; ids = x.ids; places = x.places; bytes = x.bytes; observers = v }) a.own.observers
    ∙ ap (λ (v : Bool). record x { dropped = v }) s.dropped)))))))))))))

kept_alike : (old new : Inner) → AreSame old.parts new.parts → StaysElse old new → IsKept old → IsKept new
kept_alike old new a s k =
    let lines : length new.parts.journal.lines ≡ length old.parts.journal.lines = ap length a.lines in
    let waiting : length new.queue.waiting ≡ length old.queue.waiting = ap (λ (q : Queue). length q.waiting) s.queue in
    record {
      limit = ap (λ (q : Queue). q.limit) s.queue ∙ k.limit;
      items = omega (arith, lines, k.items);
      taken = omega (arith, lines, waiting, s.taken, k.taken);
      places = ap length s.places ∙ (k.places ∙ sym waiting);
      blocks = ap (λ (q : Queue). q.blocks) s.queue ∙ (k.blocks ∙ ap (λ (st : State). option_map (λ (b : Blocking). b.k) st.blocking) (sym a.own.state));
      counted = subst (λ n. IsCounted n (as_state new.parts.own) new.parts.fences) (sym lines)
          (subst (λ (st : State). IsCounted (length old.parts.journal.lines) st new.parts.fences) (sym a.own.state) (subst (IsCounted (length old.parts.journal.lines) (as_state old.parts.own)) (sym a.fences) k.counted));
    }

pub are_alike : (old new : Inner) → AreSame old.parts new.parts → StaysElse old new → AreAlike old new
are_alike old new a s = record { same = seen_alike old new a s; kept = kept_alike old new a s }

-- ---- one item more

-- before anything but the parts is changed
pub is_added : (a : Addition) (call : Call Key Entries) (old new : Inner) → IsKept old → Follows a.step (as_state old.parts.own) → HasGained a call (stepped a.step (as_state old.parts.own)) old.parts new.parts → StaysElse old new →
    IsAddedTo a call old new
is_added a call old new k f g s =
    let counted = counted_after (length old.parts.journal.lines) a.step (as_state old.parts.own) old.parts.fences g.rising f k.counted in
    record {
      gained = g;
      stays = s;
      added = has_added a call old new g s;
      counted = subst (λ n. IsCounted n (as_state new.parts.own) new.parts.fences) (sym (one_line a call old new g))
          (subst (λ (st : State). IsCounted (suc (length old.parts.journal.lines)) st new.parts.fences) (sym g.own)
          (subst (IsCounted (suc (length old.parts.journal.lines)) (fired_state (stepped a.step (as_state old.parts.own)))) (sym g.fences) counted));
    }

-- ---- what is changed behind an item

-- more texts were taken perhaps, others wait, and other observers watch
pub record HasMoved (mid new : Inner) : Type 0 where
  pub app : new.app ≡ mid.app
  pub number : new.number ≡ mid.number
  pub journal : new.parts.journal ≡ mid.parts.journal
  pub outbox : new.parts.outbox.items ≡ mid.parts.outbox.items
  pub own : as_state new.parts.own ≡ as_state mid.parts.own
  pub fences : new.parts.fences ≡ mid.parts.fences
  pub shown : new.parts.shown.kept ≡ mid.parts.shown.kept
  pub dropped : new.dropped ≡ mid.dropped

-- what is seen, by what there is
pub seen_as : (a b : Inner) (taken : ℕ) (waiting : List ClientMessage) (bytes places : List ℕ) (observers : Watch) → HasMoved b a → a.taken ≡ taken → map (λ (w : Waiting). w.message) a.queue.waiting ≡ waiting →
    map (λ (w : Waiting). w.bytes) a.queue.waiting ≡ bytes → a.places.items ≡ places → observers_of a.parts.own.subs.items ≡ observers →
    seen a ≡ record (seen b) { carried = record (seen b).carried { taken = taken; waiting = waiting }; places = places; bytes = bytes; observers = observers }
seen_as a b taken waiting bytes places observers m e4 e5 e6 e7 e8 =
    let z = seen a in
    let y = seen b in
    ap (λ (v : App). record z { carried = record z.carried { app = v } }) m.app
    ∙ (ap (λ (v : ℕ). record z { carried = record z.carried { app = b.app; number = v } }) m.number
    ∙ (ap (λ (v : ℕ). record z { carried = record z.carried { app = b.app; number = b.number; taken = v } }) e4
    ∙ (ap (λ (v : AJournal). record z { carried = record z.carried { app = b.app; number = b.number; taken = taken; journal = items_of v.lines; counts = v.counts }; ids = map (λ (l : Line). l.id) v.lines }) m.journal
    ∙ (ap (λ (v : List (List ℕ)). record z { carried = record y.carried { taken = taken; outbox = v; waiting = z.carried.waiting; own = z.carried.own; fences = z.carried.fences; box = z.carried.box }; ids = y.ids }) m.outbox
    ∙ (ap (λ (v : List ClientMessage). record z { carried = record y.carried { taken = taken; waiting = v; own = z.carried.own; fences = z.carried.fences; box = z.carried.box }; ids = y.ids }) e5
    ∙ (ap (λ (v : State). record z { carried = record y.carried { taken = taken; waiting = waiting; own = v; fences = z.carried.fences; box = z.carried.box }; ids = y.ids }) m.own
    ∙ (ap (λ (v : List (ℕ × ℕ)). record z { carried = record y.carried { taken = taken; waiting = waiting; fences = v; box = z.carried.box }; ids = y.ids }) m.fences
    ∙ (ap (λ (v : KeptDocs). record z { carried = record y.carried { taken = taken; waiting = waiting; box = v }; ids = y.ids }) m.shown
    ∙ (ap (λ (v : List ℕ). record z { carried = record y.carried { taken = taken; waiting = waiting }; ids = y.ids; bytes = v }) e6
    ∙ (ap (λ (v : List ℕ). record z { carried = record y.carried { taken = taken; waiting = waiting }; ids = y.ids; bytes = bytes; places = v }) e7
    ∙ (ap (λ (v : Watch). record z { carried = record y.carried { taken = taken; waiting = waiting }; ids = y.ids; bytes = bytes; places = places; observers = v }) e8
    ∙ ap (λ (v : Bool). record y { carried = record y.carried { taken = taken; waiting = waiting }; bytes = bytes; places = places; observers = observers; dropped = v }) m.dropped)))))))))))

lines_moved : (mid new : Inner) → HasMoved mid new → length new.parts.journal.lines ≡ length mid.parts.journal.lines
lines_moved mid new m = ap (λ (j : AJournal). length j.lines) m.journal

counted_moved : (mid new : Inner) → HasMoved mid new → IsCounted (length mid.parts.journal.lines) (as_state mid.parts.own) mid.parts.fences → IsCounted (length new.parts.journal.lines) (as_state new.parts.own) new.parts.fences
counted_moved mid new m c =
    subst (λ n. IsCounted n (as_state new.parts.own) new.parts.fences) (sym (lines_moved mid new m))
    (subst (λ (st : State). IsCounted (length mid.parts.journal.lines) st new.parts.fences) (sym m.own) (subst (IsCounted (length mid.parts.journal.lines) (as_state mid.parts.own)) (sym m.fences) c))

blocking_moved : (mid new : Inner) → HasMoved mid new → option_map (λ (b : Blocking). b.k) (as_state mid.parts.own).blocking ≡ option_map (λ (b : Blocking). b.k) (as_state new.parts.own).blocking
blocking_moved mid new m = ap (λ (st : State). option_map (λ (b : Blocking). b.k) st.blocking) (sym m.own)

-- what a session keeps, where its queue and its places are as its own parts say
pub kept_moved : (old new : Inner) → IsKept old → HasMoved old new → new.queue.limit ≡ old.queue.limit → new.taken ≤ length old.parts.journal.lines + length new.queue.waiting → length new.places.items ≡ length new.queue.waiting → new.queue.blocks ≡ old.queue.blocks → IsKept new
kept_moved old new k m limit taken places blocks = record {
  limit = limit ∙ k.limit;
  items = omega (arith, lines_moved old new m, k.items);
  taken = omega (arith, lines_moved old new m, taken);
  places = places;
  blocks = blocks ∙ (k.blocks ∙ blocking_moved old new m);
  counted = counted_moved old new m k.counted;
}

-- nothing else waits
pub record HasStayed (old new : Inner) : Type 0 where
  pub taken : new.taken ≡ old.taken
  pub limit : new.queue.limit ≡ old.queue.limit
  pub waiting : new.queue.waiting ≡ old.queue.waiting
  pub places : new.places.items ≡ old.places.items

pub moved_alike : (old new : Inner) → HasMoved old new → HasStayed old new → new.queue.blocks ≡ old.queue.blocks → observers_of new.parts.own.subs.items ≡ observers_of old.parts.own.subs.items → AreAlike old new
moved_alike old new m s blocks observers = record {
  same = seen_as new old old.taken (seen old).carried.waiting (seen old).bytes old.places.items (seen old).observers m s.taken (ap (map (λ (w : Waiting). w.message)) s.waiting) (ap (map (λ (w : Waiting). w.bytes)) s.waiting) s.places observers;
  kept = λ k. kept_moved old new k m s.limit (omega (arith, s.taken, k.taken, ap length s.waiting)) (ap length s.places ∙ (k.places ∙ sym (ap length s.waiting))) blocks;
}

pub added_moved : (item : Stored) (id : Option (List ℕ)) (call : Call Key Entries) (state : State) (words : List ServerMessage) (old : ASession) (mid new : Inner) → HasMoved mid new →
    HasAdded item id call state words old (seen mid) → HasAdded item id call state words old (seen new)
added_moved item id call state words old mid new m h =
    subst (λ (s : ASession). HasAdded item id call state words old s) (sym (seen_as new mid new.taken (seen new).carried.waiting (seen new).bytes (seen new).places (seen new).observers m refl refl refl refl refl))
    (record {
      added = record {
        app = h.added.app;
        number = h.added.number;
        journal = h.added.journal;
        outbox = h.added.outbox;
        counts = h.added.counts;
        own = h.added.own;
        box = h.added.box;
        order = h.added.order;
      };
      ids = h.ids;
      dropped = h.dropped;
    })

module _ (a : Addition) (call : Call Key Entries) (old mid new : Inner) (d : IsAddedTo a call old mid) (m : HasMoved mid new) where
  -- the item, with these words
  pub has_said : (item : Stored) (id : Option (List ℕ)) (state : State) (words : List ServerMessage) → a.item ≡ item → a.id ≡ id → stepped a.step (as_state old.parts.own) ≡ state → a.words.items ≡ map server_text words →
      HasAdded item id call state words (seen old) (seen new)
  has_said item id state words is shows does says =
      subst (λ (i : Stored). HasAdded i id call state words (seen old) (seen new)) is
      (subst (λ (o : Option (List ℕ)). HasAdded a.item o call state words (seen old) (seen new)) shows
      (subst (λ (st : State). HasAdded a.item a.id call st words (seen old) (seen new)) does
      (added_moved a.item a.id call (stepped a.step (as_state old.parts.own)) words (seen old) mid new m (d.added words says))))

  pub has_done : (place : ℕ) (i : Item) → a.item ≡ kept_as place i → a.id ≡ shown_id i → stepped a.step (as_state old.parts.own) ≡ own_after (as_state old.parts.own) i →
      a.words.items ≡ map server_text (own_messages [] old.number (as_state old.parts.own) i) → HasDone place i call (seen old) (seen new)
  has_done place i is shows does says = has_said (kept_as place i) (shown_id i) (own_after (as_state old.parts.own) i) (own_messages [] old.number (as_state old.parts.own) i) is shows does says

  -- what a session keeps, where the queue and the places are as the item says
  pub kept_after : IsKept old → is_full (seen old) ≡ false → new.queue.limit ≡ old.queue.limit → new.taken ≤ suc (length old.parts.journal.lines) + length new.queue.waiting → length new.places.items ≡ length new.queue.waiting →
      new.queue.blocks ≡ option_map (λ (b : Blocking). b.k) (stepped a.step (as_state old.parts.own)).blocking → IsKept new
  kept_after k room limit taken places blocks =
      let lines : length new.parts.journal.lines ≡ suc (length old.parts.journal.lines) = lines_moved mid new m ∙ one_line a call old mid d.gained in
      record {
        limit = limit ∙ k.limit;
        items = omega (arith, lines, room_left old room);
        taken = omega (arith, lines, taken);
        places = places;
        blocks = blocks ∙ (ap (option_map (λ (b : Blocking). b.k)) (sym (blocks_after a call old mid d.gained)) ∙ blocking_moved mid new m);
        counted = counted_moved mid new m d.counted;
      }

pub waits_alike : (old new : Inner) → HasStayed old new → Waits (seen old) (seen new)
waits_alike old new s = record {
  taken = s.taken;
  waiting = ap (map (λ (w : Waiting). w.message)) s.waiting;
  places = s.places;
  bytes = ap (map (λ (w : Waiting). w.bytes)) s.waiting;
}

-- what an item leaves that waits
pub stays_then : (old mid new : Inner) → StaysElse old mid → HasStayed mid new → HasStayed old new
stays_then old mid new e s = record {
  taken = s.taken ∙ e.taken;
  limit = s.limit ∙ ap (λ (q : Queue). q.limit) e.queue;
  waiting = s.waiting ∙ ap (λ (q : Queue). q.waiting) e.queue;
  places = s.places ∙ e.places;
}

pub waits_more : (old : ASession) (mid new : Inner) → Waits old (seen mid) → HasStayed mid new → Waits old (seen new)
waits_more old mid new w s = record {
  taken = s.taken ∙ w.taken;
  waiting = ap (map (λ (w : Waiting). w.message)) s.waiting ∙ w.waiting;
  places = s.places ∙ w.places;
  bytes = ap (map (λ (w : Waiting). w.bytes)) s.waiting ∙ w.bytes;
}
