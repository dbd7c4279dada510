-- A session that has one more item is the world's session with that item: its texts behind the outbox are the item's.
use Rattle.std.specs.Prelude.{◌≡◌, ℕ, List, [], ◌∷◌, ◌++◌, length, Option, refl}
use Rattle.std.proofs.Common.{ap, ap₂, sym, subst, ◌∙◌}
use Rattle.std.proofs.lemmas.List.{append_assoc, append_cancel_left}
use Rattle.merge_model.specs.Publishing.{Call}
use Rattle.value_model.specs.Val.{Entries}
use Rattle.ejson_value.specs.declared.key.Key.{Key}
use Rattle.ddp_messages.specs.ServerMessage.{ServerMessage}
use Rattle.app_model.specs.App.{App}
use Rattle.world_invariant_laws.specs.history_model.declared.entry.Entry.{Entry}
use Rattle.world_invariant_laws.specs.session_model.Items.{Item}
use Rattle.world_invariant_laws.specs.session_model.State.{State}
use Rattle.world_invariant_laws.specs.session_model.Out.{out_texts}
use Rattle.world_invariant_laws.specs.session_journal_laws.Appending.{out_texts-append}
use Rattle.session_laws.specs.session_journal_laws.declared.stored.Stored.{Stored}
use Rattle.session_laws.specs.session_journal_laws.Resolved.{resolved}
use Rattle.session_laws.specs.session_journal_laws.Stands.{items_of}
use Rattle.session_laws.specs.Session.{ASession}
use Rattle.session_laws.specs.Adding.{HasAdded}
use Rattle.session_laws.specs.Storing.{kept_as}
use Rattle.session_laws.specs.Meaning.{Means}
use Rattle.session_laws.specs.Keeping.{items_added}
use Rattle.world_invariant_laws.specs.world_model.Store.{moments}
use Rattle.world_invariant_laws.specs.world_model.Conn.{Waiting, Refusal}
use Rattle.world_invariant_laws.specs.world_model.Acts.{item_texts, with_item}
use Rattle.connection_laws.specs.Connection.{AConnection, waiting_of, as_conn, IsKeptOf, AreKeptOf, IsConnection}

-- ---- the item is kept as it is

pub kept-append : (ss : List Stored) (items : List Item) (s : Stored) (i : Item) → AreKeptOf ss items → IsKeptOf s i →
    AreKeptOf (ss ++ s ∷ []) (items ++ i ∷ [])
kept-append [] [] s i k one = (one, tt)
kept-append [] (j ∷ items) s i k one = absurd k
kept-append (r ∷ ss) [] s i k one = absurd k
kept-append (r ∷ ss) (j ∷ items) s i k one = (k.0, kept-append ss items s i k.1 one)

-- ---- the session has it

-- The session has the item too, and now stands for these texts
pub record HasOne (app : App) (history : List Entry) (received : List (List ℕ)) (place : ℕ) (i : Item) (old : AConnection) (s : ASession) : Type 0 where
  pub served : s.carried.app ≡ old.session.carried.app
  pub number : s.carried.number ≡ old.session.carried.number
  pub journal : s.carried.journal ≡ old.session.carried.journal ++ kept_as place i ∷ []
  pub items : items_of received s.carried ≡ items_of old.received old.session.carried ++ i ∷ []
  pub dropped : s.dropped ≡ old.session.dropped
  pub means : Means received (moments app old.session.carried.number history) old.sent s

-- an item that is added, and reads back
pub has_one : (app : App) (history : List Entry) (received : List (List ℕ)) (place : ℕ) (i : Item) (old : AConnection) (s : ASession)
    (id : Option (List ℕ)) (call : Call Key Entries) (state : State) (words : List ServerMessage) →
    HasAdded (kept_as place i) id call state words old.session s → items_of received old.session.carried ≡ items_of old.received old.session.carried →
    resolved old.session.carried.app old.session.carried.number received (kept_as place i) ≡ i →
    Means received (moments app old.session.carried.number history) old.sent s → HasOne app history received place i old s
has_one app history received place i old s id call state words a same reads m = record {
  served = a.added.app;
  number = a.added.number;
  journal = a.added.journal;
  items =
      items_added received (kept_as place i) old.session.carried s.carried a.added.app a.added.number a.added.journal
      ∙ ap₂ (λ (xs : List Item) (j : Item). xs ++ j ∷ []) same reads;
  dropped = a.dropped;
  means = m;
}

module _ (app : App) (name : List ℕ) (history : List Entry) (received : List (List ℕ)) (place : ℕ) (i : Item) (old : AConnection) (s : ASession)
    (p : IsConnection app name history old) (o : HasOne app history received place i old s) where
  -- what was sent and is to be sent are the texts of the journal, before and now
  pub outbox_is : s.carried.outbox ≡ old.session.carried.outbox ++ item_texts app history (as_conn old) i
  outbox_is =
      let n = old.session.carried.number in
      let C = moments app n history in
      let items = items_of old.received old.session.carried in
      let more = item_texts app history (as_conn old) i in
      append_cancel_left old.sent s.carried.outbox (old.session.carried.outbox ++ more)
      (o.means.stands.texts
      ∙ (ap₂ (λ (k : ℕ) (xs : List Item). out_texts C k xs) o.number o.items
      ∙ (out_texts-append n C items i
      ∙ (ap (λ (ts : List (List ℕ)). ts ++ more) (sym p.means.stands.texts) ∙ append_assoc old.sent old.session.carried.outbox more))))

  -- so it is the world's session with the item
  pub one_more : (upward : List (List ℕ)) (queue : List Waiting) (kept : Option Refusal) → waiting_of s.carried.waiting s.bytes ≡ queue →
      as_conn (record old { upward = upward; session = s; received = received; kept = kept }) ≡ with_item app history
      (record (as_conn old) { upward = upward; received = received; queue = queue; kept = kept }) i
  one_more upward queue kept waits = λ j. record (as_conn old) {
    upward = upward;
    number = o.number j;
    received = received;
    queue = waits j;
    items = o.items j;
    outbox = outbox_is j;
    kept = kept;
  }

  pub one_stays : (upward : List (List ℕ)) (kept : Option Refusal) → length s.bytes ≡ length s.carried.waiting →
      IsConnection app name history (record old { upward = upward; session = s; received = received; kept = kept })
  one_stays upward kept bytes = record {
    stubs = p.stubs;
    named = p.named;
    served = o.served ∙ p.served;
    means = subst (λ (n : ℕ). Means received (moments app n history) old.sent s) (sym o.number) o.means;
    bytes = bytes;
    dropped = o.dropped ∙ p.dropped;
    kinds =
        subst (λ (xs : List Item). AreKeptOf s.carried.journal xs) (sym o.items)
        (subst (λ (ss : List Stored). AreKeptOf ss (items_of old.received old.session.carried ++ i ∷ [])) (sym o.journal)
        (kept-append old.session.carried.journal (items_of old.received old.session.carried)
        (kept_as place i) i p.kinds (record { place = place; is = refl })));
  }
