-- A text that is taken keeps what a session stands for.
use Rattle.std.specs.Prelude.{◌≡◌, ℕ, suc, ◌<◌, List, [], ◌∷◌, ◌++◌, length, map, Option, true, false, refl}
use Rattle.std.proofs.Common.{ap, ap₂, sym, subst, ◌∙◌, arith}
use Rattle.std.proofs.lemmas.List.{map-append, length-append}
use Rattle.merge_model.specs.Publishing.{Call, apply}
use Rattle.value_model.specs.Val.{Entries}
use Rattle.ejson_value.specs.declared.key.Key.{Key}
use Rattle.ddp_messages.specs.ClientMessage.{ClientMessage}
use Rattle.ddp_messages.specs.ServerMessage.{ServerMessage}
use Rattle.app_model.specs.App.{App}
use Rattle.live_observer.specs.Observing.{AnObserver}
use Rattle.session_model.specs.Items.{Item}
use Rattle.session_model.specs.Items as item
use Rattle.session_model.specs.Subscriptions.{Live}
use Rattle.session_model.specs.State.{State, own_after}
use Rattle.session_model.specs.Out.{own_messages}
use Rattle.session_model.specs.Fits.{CanFollow}
use Rattle.session_model.specs.Taking.{at_once, to_queue, taken_text, is_connected_by}
use Rattle.session_model.specs.Answering.{is_at_once}
use Rattle.session_journal_laws.specs.Takes.{IsRight, taken_right}
use Rattle.session_journal_laws.specs.declared.stored.Stored.{Stored}
use Rattle.session_journal_laws.specs.declared.stored.Stored.TheVariants as stored
use Rattle.session_journal_laws.specs.Resolved.{resolved, message_at, message_or_pong, IsPlaced}
use Rattle.session_journal_laws.specs.ResolvedLaws.{resolved-more, items-more, last_taken}
use Rattle.session_journal_laws.specs.Stands.{Carried, items_of}
use Rattle.session_journal_laws.specs.RelationKeeping.{queued_stands}
use Rattle.session_journal_laws.specs.RelationEvents.{once_stands}
use Rattle.session_laws.specs.Session.{ASession}
use Rattle.session_laws.specs.Adding.{HasAdded}
use Rattle.session_laws.specs.Storing.{kept_as, shown_id}
use Rattle.session_laws.specs.Meaning.{IsFrom, AreFrom, AreOpen, AreWatched}
use Rattle.session_laws.specs.Events.{IsAnswered, KeepsTaking, queued}
use Rattle.session_laws.specs.TakingLaws.{answered_once, queued_waits, queued_connected, once_says, once_subs, once_resolved, open_after, open_more}

-- ---- parts of what a session stands for

pub items_added : (taken : List (List ℕ)) (i : Stored) (old new : Carried) → new.app ≡ old.app → new.number ≡ old.number → new.journal ≡ old.journal ++ i ∷ [] →
    items_of taken new ≡ items_of taken old ++ resolved old.app old.number taken i ∷ []
items_added taken i old new app number journal =
    ap₂ (λ (a : App) (n : ℕ). map (resolved a n taken) new.journal) app number
    ∙ (ap (map (resolved old.app old.number taken)) journal ∙ map-append (resolved old.app old.number taken) old.journal (i ∷ []))

-- each item still has the id that a print of it shows
pub ids_added : (taken : List (List ℕ)) (kept : Stored) (i : Item) (call : Call Key Entries) (state : State) (words : List ServerMessage)
    (old new : ASession) → HasAdded kept (shown_id i) call state words old new →
    resolved old.carried.app old.carried.number taken kept ≡ i → old.ids ≡ map shown_id (items_of taken old.carried) →
    new.ids ≡ map shown_id (items_of taken new.carried)
ids_added taken kept i call state words old new a is ids =
    let items = items_of taken old.carried in
    a.ids ∙ (ap (λ (xs : List (Option (List ℕ))). xs ++ shown_id i ∷ []) ids
    ∙ (ap (λ (j : Item). map shown_id items ++ shown_id j ∷ []) (sym is)
    ∙ sym (ap (map shown_id) (items_added taken kept old.carried new.carried a.added.app a.added.number a.added.journal)
    ∙ map-append shown_id items (resolved old.carried.app old.carried.number taken kept ∷ []))))

message_more : (app : App) (number : ℕ) (taken more : List (List ℕ)) (place : ℕ) → place < length taken →
    message_at (taken ++ more) place ≡ message_at taken place
message_more app number taken more place less = let same = resolved-more app number taken more (stored.Same place) less in cc same

-- texts that are taken later leave where the messages that wait come from
pub from-more : (app : App) (number : ℕ) (taken more : List (List ℕ)) (places : List ℕ) (ms : List ClientMessage) → AreFrom taken places ms →
    AreFrom (taken ++ more) places ms
from-more app number taken more [] [] f = tt
from-more app number taken more [] (m ∷ ms) f = absurd f
from-more app number taken more (p ∷ ps) [] f = absurd f
from-more app number taken more (p ∷ ps) (m ∷ ms) f = (
  record {
    within = omega (arith, f.0.within, length-append taken more);
    says = message_more app number taken more p f.0.within ∙ f.0.says;
    waits = f.0.waits;
    short = f.0.short;
  },
  from-more app number taken more ps ms f.1,
)

from-append : (taken : List (List ℕ)) (places : List ℕ) (ms : List ClientMessage) (place : ℕ) (message : ClientMessage) → AreFrom taken places ms →
    IsFrom taken place message → AreFrom taken (places ++ place ∷ []) (ms ++ message ∷ [])
from-append taken [] [] place message f g = (g, tt)
from-append taken [] (m ∷ ms) place message f g = absurd f
from-append taken (p ∷ ps) [] place message f g = absurd f
from-append taken (p ∷ ps) (m ∷ ms) place message f g = (f.0, from-append taken ps ms place message f.1 g)

-- ---- a text is answered at once

placed_once : (n : ℕ) (i : Item) → is_at_once i ≡ true → IsPlaced (suc n) (kept_as n i)
placed_once n item.connect e = tt
placed_once n item.fail e = tt
placed_once n (item.ping id) e = omega arith
placed_once n item.pong e = tt
placed_once n (item.bad reason offending) e = omega arith
placed_once n i e = cc e

module _ (t : List ℕ) (i : Item) (old new : ASession) (failed : old.carried.own.failed ≡ false)
    (is : taken_text old.carried.own.connected t ≡ at_once i) (a : IsAnswered i old new) where
  pub answered_keeps : KeepsTaking t old new
  answered_keeps taken C sent m =
      let app = old.carried.app in
      let number = old.carried.number in
      let kept = kept_as old.carried.taken i in
      let once = answered_once old.carried.own.connected t i is in
      let connected : is_connected_by false taken ≡ old.carried.own.connected = m.stands.answers.connected
      ∙ ap (λ (st : State). st.connected) (sym m.stands.own) in
      let now : taken_text (is_connected_by false taken) t ≡ at_once i = ap (λ c. taken_text c t) connected ∙ is in
      let reads : resolved app number (taken ++ t ∷ []) kept ≡ i = ap (λ n. resolved app number (taken ++ t ∷ []) (kept_as n i)) m.stands.count
      ∙ once_resolved app number taken t i once now in
      let may : CanFollow app number C old.carried.own i = subst (IsRight app number C old.carried.own.connected) is
      (taken_right app number C old.carried.own.connected t) old.carried.own refl failed in
      let subs : new.carried.own.subs ≡ old.carried.own.subs = ap (λ (st : State). st.subs) a.done.added.own ∙ once_subs old.carried.own i once in
      record {
        order = m.order;
        stands = once_stands taken C sent old.carried new.carried kept t (own_after old.carried.own i)
            (own_messages [] number old.carried.own i) m.order m.stands a.done.added
            (is ∙ ap at_once (sym reads)) (ap is_at_once reads ∙ once) a.taken a.waiting
            (subst (λ n. IsPlaced (suc (length taken)) (kept_as n i)) (sym m.stands.count) (placed_once (length taken) i once))
            (subst (CanFollow app number C old.carried.own) (sym reads) may) (ap (own_after old.carried.own) (sym reads))
            (once_says C number old.carried.own i once ∙ ap (own_messages C number old.carried.own) (sym reads));
        ids = ids_added (taken ++ t ∷ []) kept i (apply 0 []) (own_after old.carried.own i)
            (own_messages [] number old.carried.own i) old new a.done reads
            (m.ids ∙ ap (map shown_id) (sym (items-more app number taken (t ∷ []) old.carried.journal m.stands.placed)));
        from = subst (λ (ps : List ℕ). AreFrom (taken ++ t ∷ []) ps new.carried.waiting) (sym a.places)
            (subst (λ (ms : List ClientMessage). AreFrom (taken ++ t ∷ []) old.places ms) (sym a.waiting)
            (from-more app number taken (t ∷ []) old.places old.carried.waiting m.from));
        connected = subst (λ (ms : List ClientMessage). AreOpen new.carried.own.connected ms) (sym a.waiting)
            (open_after old.carried.own i new.carried.own.connected old.carried.waiting (ap (λ (st : State). st.connected) a.done.added.own) m.connected);
        watched = subst (λ (os : List (Option AnObserver)). AreWatched C new.carried.own.subs os) (sym a.observers)
            (subst (λ (ls : List Live). AreWatched C ls old.observers) (sym subs) m.watched);
      }

-- ---- its message waits

module _ (t : List ℕ) (message : ClientMessage) (n : ℕ) (old : ASession) (is : taken_text old.carried.own.connected t ≡ to_queue message) where
  pub queued_keeps : KeepsTaking t old (queued message n old)
  queued_keeps taken C sent m =
      let app = old.carried.app in
      let number = old.carried.number in
      let connected : is_connected_by false taken ≡ old.carried.own.connected = m.stands.answers.connected
      ∙ ap (λ (st : State). st.connected) (sym m.stands.own) in
      let now : taken_text (is_connected_by false taken) t ≡ to_queue message = ap (λ c. taken_text c t) connected ∙ is in
      let last : IsFrom (taken ++ t ∷ []) (length taken) message = record {
        within = omega (arith, length-append taken (t ∷ []));
        says = ap message_or_pong (last_taken taken t ∙ now);
        waits = queued_waits old.carried.own.connected t message is;
        short = subst (IsRight app number C old.carried.own.connected) is (taken_right app number C old.carried.own.connected t);
      } in
      record {
        order = m.order;
        stands = queued_stands taken C sent old.carried t message m.stands is;
        ids = m.ids ∙ ap (map shown_id) (sym (items-more app number taken (t ∷ []) old.carried.journal m.stands.placed));
        from = from-append (taken ++ t ∷ []) old.places old.carried.waiting old.carried.taken message
            (from-more app number taken (t ∷ []) old.places old.carried.waiting m.from)
            (subst (λ n. IsFrom (taken ++ t ∷ []) n message) (sym m.stands.count) last);
        connected = open_more old.carried.own.connected old.carried.waiting message (queued_connected old.carried.own.connected t message is);
        watched = m.watched;
      }
