-- A message that is handled.
use Rattle.std.proofs.Common.{◌≡◌, ℕ, ◌-◌, List, [], ◌∷◌, ◌++◌, length, map, Bool, true, false, cond, Option, Some, None, refl, ap, sym, subst, ◌∙◌, arith}
use Rattle.std.specs.Prelude.{option_map, is_some, drop, Ok, Err}
use Rattle.std.proofs.lemmas.List.{length-drop, drop-map}
use Rattle.merge_model.specs.Publishing.{Call}
use Rattle.value_model.specs.Val.{Entries}
use Rattle.ejson_value.specs.declared.key.Key.{Key}
use Rattle.ddp_messages.specs.ClientMessage.{ClientMessage}
use Rattle.ddp_messages.specs.ClientMessage as client
use Rattle.app_model.specs.App.{App, method}
use Rattle.method_queue.specs.Queue.{Waiting, Queue}
use Rattle.session_core.specs.live_observer.Observing.{AnObserver}
use Rattle.session_core.specs.session_model.Publication.{Making, making}
use Rattle.session_core.specs.session_model.Items.{Item}
use Rattle.session_core.specs.session_model.Items as item
use Rattle.session_core.specs.session_model.Subscriptions.{Live, sub_named, is_crowded}
use Rattle.session_core.specs.session_model.Methods.{Blocking, freed}
use Rattle.session_core.specs.session_model.State.{State}
use Rattle.session_core.specs.session_model.Fits.{item_for, opened_by, closed_by}
use Rattle.session_core.specs.session_state.declared.own.Step.{Step}
use Rattle.session_core.specs.session_state.declared.own.Step.TheVariants as step
use Rattle.session_core.specs.session_state.Own.{as_state, stepped, started_by, observers_after as observers_stepped}
use Rattle.session_core.specs.session_state.Subs.{observers_of}
use Rattle.session_core.specs.declared.adding.Addition.{Addition}
use Rattle.session_core.specs.Asked.{Carries}
use Rattle.session_core.specs.session_laws.Session.{ASession, is_full}
use Rattle.session_core.specs.session_model.Observers.{observers_without}
use Rattle.session_core.specs.session_laws.Events.{HasDone, HasHandled, IsHandledAs, plain_call, observers_after}
use Rattle.session_core.specs.declared.inner.Inner.{Inner}
use Rattle.session_core.specs.Kept.{seen, IsKept}
use Rattle.session_core.specs.Adding.{Follows, IsAddedTo}
use Rattle.session_core.specs.Handling.{IsNextBy, IsNext, gone_by, passed}
use Rattle.session_core.proofs.Keeping.{HasMoved, has_done, kept_after}

-- ---- the step of an item that answers a message

-- a call that is handled has the next number
abbrev IsNumbered : Item → State → Type 0
IsNumbered (item.call k message seed) st = k ≡ length st.methods
IsNumbered i st = Unit {0}

numbered_if : (b : Bool) (i j : Item) (st : State) → IsNumbered i st → IsNumbered j st → IsNumbered (cond b i j) st
numbered_if true i j st p q = p
numbered_if false i j st p q = q

numbered_opened : (n : ℕ) (message : ClientMessage) (made : Making) (st : State) → IsNumbered (opened_by n message made) st
numbered_opened n message (Ok cursors) st = tt
numbered_opened n message (Err e) st = tt

numbered_closed : (message : ClientMessage) (o : Option ℕ) (st : State) → IsNumbered (closed_by message o) st
numbered_closed message None st = tt
numbered_closed message (Some s) st = tt

numbered : (app : App) (number : ℕ) (st : State) (message : ClientMessage) → IsNumbered (item_for app number st message) st
numbered app number st (client.sub id name params) = numbered_if (is_some (sub_named id st.subs)) _ _ st tt (numbered_if (is_crowded st.subs) _ _ st tt (numbered_opened st.opened (client.sub id name params) (making app name params) st))
numbered app number st (client.unsub id) = numbered_closed (client.unsub id) (sub_named id st.subs) st
numbered app number st (client.method id name params seed) = numbered_if (is_some (method app name)) _ _ st refl tt
numbered app number st (client.connect version support) = tt
numbered app number st (client.ping id) = tt
numbered app number st (client.pong id) = tt

follows_by : (s : Step) (i : Item) (st : State) → Carries s i → IsNumbered i st → Follows s st
follows_by (step.Handle id call) (item.call k message seed) st c n = c ∙ n
follows_by (step.Handle id call) i st c n = absurd c
follows_by (step.Finish k place) i st c n = absurd c
follows_by (step.Refuse k) i st c n = absurd c
follows_by s i st c n = tt

pub carried_follows : (app : App) (number : ℕ) (st : State) (message : ClientMessage) (s : Step) → Carries s (item_for app number st message) → Follows s st
carried_follows app number st message s c = follows_by s (item_for app number st message) st c (numbered app number st message)

gone_is : (s : Step) (i : Item) → Carries s i → gone_by s ≡ plain_call i
gone_is step.Stay (item.same message) c = refl
gone_is step.Stay (item.nosub message fault) c = refl
gone_is step.Stay (item.unknown message) c = refl
gone_is step.Stay item.pong c = refl
gone_is (step.Open sub) (item.subscribe s message cursors) c = refl
gone_is (step.Close t) (item.close s message) c = ap (λ (n : ℕ). gone_by (step.Close n)) c
gone_is (step.Handle id call) (item.call k message seed) c = refl
gone_is s i c = absurd c

observers_are : (s : Step) (i : Item) → Carries s i → (ls : List Live) (os : List (Option AnObserver)) → observers_stepped s ls os ≡ observers_after i ls os
observers_are step.Stay (item.same message) c ls os = refl
observers_are step.Stay (item.nosub message fault) c ls os = refl
observers_are step.Stay (item.unknown message) c ls os = refl
observers_are step.Stay item.pong c ls os = refl
observers_are (step.Open sub) (item.subscribe s message cursors) c ls os = ap (λ (o : Option AnObserver). os ++ o ∷ []) c
observers_are (step.Close t) (item.close s message) c ls os = ap (λ (n : ℕ). observers_without n ls os) c
observers_are (step.Handle id call) (item.call k message seed) c ls os = refl
observers_are s i c ls os = absurd c

-- ---- what the queue becomes

passed_limit : (o : Option ℕ) (q : Queue) → (passed o q).limit ≡ q.limit
passed_limit None q = refl
passed_limit (Some k) q = refl

passed_waiting : (o : Option ℕ) (q : Queue) → (passed o q).waiting ≡ drop 1 q.waiting
passed_waiting None q = refl
passed_waiting (Some k) q = refl

passed_blocks : (s : Step) (st : State) (q : Queue) → st.blocking ≡ None → q.blocks ≡ None → (passed (started_by s) q).blocks ≡ option_map (λ (b : Blocking). b.k) (stepped s st).blocking
passed_blocks (step.Handle id call) st q e n = refl
passed_blocks (step.Refuse k) st q e n = n ∙ sym (ap (λ (b : Option Blocking). option_map (λ (x : Blocking). x.k) (freed k b)) e)
passed_blocks (step.Unblock k) st q e n = n ∙ sym (ap (λ (b : Option Blocking). option_map (λ (x : Blocking). x.k) (freed k b)) e)
passed_blocks (step.Finish k place) st q e n = n ∙ sym (ap (λ (b : Option Blocking). option_map (λ (x : Blocking). x.k) (freed k b)) e)
passed_blocks s st q e n = n ∙ sym (ap (option_map (λ (x : Blocking). x.k)) e)

-- ---- all of it

handled_by : (ps : List ℕ) (ms : List ClientMessage) (s new : ASession) (a : Addition) → IsNext ps ms s (Some a) → ((place : ℕ) (message : ClientMessage) → IsNextBy place message s a → IsHandledAs place message s new) → HasHandled ps ms s new
handled_by [] ms s new a n f = absurd n
handled_by (p ∷ ps) [] s new a n f = absurd n
handled_by (p ∷ ps) (m ∷ ms) s new a n f = f p m n

-- the first message, where there is one
follows_next : (ps : List ℕ) (ms : List ClientMessage) (s : ASession) (a : Addition) → IsNext ps ms s (Some a) → Follows a.step s.carried.own
follows_next [] ms s a n = absurd n
follows_next (p ∷ ps) [] s a n = absurd n
follows_next (p ∷ ps) (m ∷ ms) s a n = carried_follows s.carried.app s.carried.number s.carried.own m a.step n.carries

pub next_follows : (s : ASession) (a : Addition) → IsNext s.places s.carried.waiting s (Some a) → Follows a.step s.carried.own
next_follows s a n = follows_next s.places s.carried.waiting s a n

module _ (a : Addition) (old mid new : Inner) (d : IsAddedTo a (gone_by a.step) old mid) (m : HasMoved mid new) (taken : new.taken ≡ mid.taken) (queue : new.queue ≡ passed (started_by a.step) mid.queue)
    (places : new.places.items ≡ drop 1 mid.places.items) (watch : observers_of new.parts.own.subs.items ≡ observers_of mid.parts.own.subs.items) where
  waiting : new.queue.waiting ≡ drop 1 old.queue.waiting
  waiting = ap (λ (q : Queue). q.waiting) queue ∙ (passed_waiting (started_by a.step) mid.queue ∙ ap (λ (q : Queue). drop 1 q.waiting) d.stays.queue)

  handled_as : (place : ℕ) (message : ClientMessage) → IsNextBy place message (seen old) a → IsHandledAs place message (seen old) (seen new)
  handled_as place message n =
      let i = item_for old.app old.number (as_state old.parts.own) message in
      record {
        done = subst (λ (call : Call Key Entries). HasDone place i call (seen old) (seen new)) (gone_is a.step i n.carries) (has_done a (gone_by a.step) old mid new d m place i n.kept n.id n.does n.says);
        taken = taken ∙ d.stays.taken;
        waiting = ap (map (λ (w : Waiting). w.message)) waiting ∙ sym (drop-map (λ (w : Waiting). w.message) 1 old.queue.waiting);
        places = places ∙ ap (drop 1) d.stays.places;
        bytes = ap (map (λ (w : Waiting). w.bytes)) waiting ∙ sym (drop-map (λ (w : Waiting). w.bytes) 1 old.queue.waiting);
        observers = watch ∙ (d.gained.observers ∙ observers_are a.step i n.carries (seen old).carried.own.subs (seen old).observers);
      }

  pub handled : IsNext (seen old).places (seen old).carried.waiting (seen old) (Some a) → HasHandled (seen old).places (seen old).carried.waiting (seen old) (seen new)
  handled n = handled_by (seen old).places (seen old).carried.waiting (seen old) (seen new) a n handled_as

  pub handled_kept : IsKept old → is_full (seen old) ≡ false → (as_state old.parts.own).blocking ≡ None → old.queue.blocks ≡ None → IsKept new
  handled_kept k room free none =
      let waits = ap length waiting in
      kept_after a (gone_by a.step) old mid new d m k room (ap (λ (q : Queue). q.limit) queue ∙ (passed_limit (started_by a.step) mid.queue ∙ ap (λ (q : Queue). q.limit) d.stays.queue))
      (omega (arith, taken, d.stays.taken, k.taken, waits, length-drop 1 old.queue.waiting))
      (ap length (places ∙ ap (drop 1) d.stays.places) ∙ (length-drop 1 old.places.items ∙ (ap (λ (n : ℕ). n - 1) k.places ∙ sym (waits ∙ length-drop 1 old.queue.waiting))))
      (ap (λ (q : Queue). q.blocks) queue ∙ passed_blocks a.step (as_state old.parts.own) mid.queue free (ap (λ (q : Queue). q.blocks) d.stays.queue ∙ none))
