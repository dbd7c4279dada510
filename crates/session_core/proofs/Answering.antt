-- A text that is answered at once, and one whose message waits.
use Rattle.std.proofs.Common.{◌≡◌, ℕ, suc, ◌≤◌, List, [], ◌∷◌, ◌++◌, length, map, Bool, true, false, cond, Option, None, refl, ap, sym, subst, ◌∙◌, arith}
use Rattle.std.specs.Prelude.{nat_lt, codes, option_map}
use Rattle.std.proofs.lemmas.Bool.{ltb-false}
use Rattle.std.proofs.lemmas.List.{map-append, length-append}
use Rattle.serde_json.specs.Read as json
use Rattle.merge_model.specs.Publishing.{apply}
use Rattle.ddp_messages.specs.ClientMessage.{ClientMessage}
use Rattle.method_queue.specs.Queue.{Waiting, Queue, pushed}
use Rattle.session_core.specs.live_observer.Observing.{AnObserver}
use Rattle.ddp_messages.specs.Texts.{server_text}
use Rattle.session_core.specs.session_model.Items.{Item, bad}
use Rattle.session_core.specs.session_model.Subscriptions.{Live}
use Rattle.session_core.specs.session_model.Methods.{Blocking}
use Rattle.session_core.specs.session_model.State.{State, own_after}
use Rattle.session_core.specs.session_model.Out.{own_messages}
use Rattle.session_core.specs.session_model.Taking.{max_text, Taken, at_once, to_queue, taken_tree, taken_text}
use Rattle.session_core.specs.session_texts.declared.taking.Answer.{Answer}
use Rattle.session_core.specs.session_texts.declared.taking.Answer.TheVariants as answer
use Rattle.session_core.specs.session_texts.Taking.{as_item}
use Rattle.session_core.specs.session_texts.Said.{answer_messages}
use Rattle.session_core.specs.session_state.Own.{as_state, stepped, observers_after}
use Rattle.session_core.specs.session_state.Subs.{observers_of}
use Rattle.session_core.specs.declared.adding.Addition.{Addition}
use Rattle.session_core.specs.session_laws.Storing.{kept_as, shown_id}
use Rattle.session_core.specs.session_laws.Session.{is_full}
use Rattle.session_core.specs.session_laws.Events.{IsAnswered, queued}
use Rattle.session_core.specs.declared.inner.Inner.{Inner}
use Rattle.session_core.specs.Kept.{seen, IsKept}
use Rattle.session_core.specs.Adding.{Follows, step_by, IsAddedTo}
use Rattle.session_core.proofs.Keeping.{HasMoved, seen_as, has_done, kept_after, kept_moved}

-- ---- what an answer does

pub answers_follow : (x : Answer) (st : State) → Follows (step_by x) st
answers_follow answer.Connect st = tt
answers_follow answer.Fail st = tt
answers_follow (answer.Ping id) st = tt
answers_follow answer.Pong st = tt
answers_follow (answer.Bad reason offending) st = tt

step_does : (x : Answer) (st : State) → stepped (step_by x) st ≡ own_after st (as_item x)
step_does answer.Connect st = refl
step_does answer.Fail st = refl
step_does (answer.Ping id) st = refl
step_does answer.Pong st = refl
step_does (answer.Bad reason offending) st = refl

still_blocks : (x : Answer) (st : State) → (stepped (step_by x) st).blocking ≡ st.blocking
still_blocks answer.Connect st = refl
still_blocks answer.Fail st = refl
still_blocks (answer.Ping id) st = refl
still_blocks answer.Pong st = refl
still_blocks (answer.Bad reason offending) st = refl

observers_stay : (x : Answer) (ls : List Live) (os : List (Option AnObserver)) → observers_after (step_by x) ls os ≡ os
observers_stay answer.Connect ls os = refl
observers_stay answer.Fail ls os = refl
observers_stay (answer.Ping id) ls os = refl
observers_stay answer.Pong ls os = refl
observers_stay (answer.Bad reason offending) ls os = refl

shows_none : (x : Answer) → None ≡ shown_id (as_item x)
shows_none answer.Connect = refl
shows_none answer.Fail = refl
shows_none (answer.Ping id) = refl
shows_none answer.Pong = refl
shows_none (answer.Bad reason offending) = refl

says_so : (number : ℕ) (x : Answer) (st : State) → answer_messages number (as_item x) ≡ own_messages [] number st (as_item x)
says_so number answer.Connect st = refl
says_so number answer.Fail st = refl
says_so number (answer.Ping id) st = refl
says_so number answer.Pong st = refl
says_so number (answer.Bad reason offending) st = refl

module _ (a : Addition) (x : Answer) (old mid new : Inner) (d : IsAddedTo a (apply 0 []) old mid) (m : HasMoved mid new) (step : a.step ≡ step_by x) where
  pub answered : a.item ≡ kept_as old.taken (as_item x) → a.id ≡ None → a.words.items ≡ map server_text (answer_messages old.number (as_item x)) → new.taken ≡ suc old.taken → new.queue ≡ old.queue → new.places.items ≡ old.places.items →
      observers_of new.parts.own.subs.items ≡ observers_of mid.parts.own.subs.items → IsAnswered (as_item x) (seen old) (seen new)
  answered item id words taken queue places watch = record {
    done = has_done a (apply 0 []) old mid new d m old.taken (as_item x) item (id ∙ shows_none x) (ap (λ s. stepped s (as_state old.parts.own)) step ∙ step_does x (as_state old.parts.own)) (words ∙ ap (map server_text) (says_so old.number x (as_state old.parts.own)));
    taken = taken;
    waiting = ap (λ (q : Queue). map (λ (w : Waiting). w.message) q.waiting) queue;
    places = places;
    bytes = ap (λ (q : Queue). map (λ (w : Waiting). w.bytes) q.waiting) queue;
    observers = watch ∙ d.gained.observers ∙ (ap (λ s. observers_after s (seen old).carried.own.subs (seen old).observers) step ∙ observers_stay x (seen old).carried.own.subs (seen old).observers);
  }

  pub answered_kept : IsKept old → is_full (seen old) ≡ false → new.taken ≡ suc old.taken → new.queue ≡ old.queue → new.places.items ≡ old.places.items → IsKept new
  answered_kept k room taken queue places =
      let waits : length new.queue.waiting ≡ length old.queue.waiting = ap (λ (q : Queue). length q.waiting) queue in
      kept_after a (apply 0 []) old mid new d m k room (ap (λ (q : Queue). q.limit) queue) (omega (arith, taken, k.taken, waits)) (ap length places ∙ (k.places ∙ sym waits))
      (ap (λ (q : Queue). q.blocks) queue ∙ (k.blocks ∙ ap (option_map (λ (b : Blocking). b.k)) (sym (ap (λ s. (stepped s (as_state old.parts.own)).blocking) step ∙ still_blocks x (as_state old.parts.own)))))

-- ---- its message waits

pub seen_queued : (old new : Inner) (message : ClientMessage) (n : ℕ) → HasMoved old new → new.taken ≡ suc old.taken → new.queue ≡ pushed old.queue message n → new.places.items ≡ old.places.items ++ old.taken ∷ [] →
    observers_of new.parts.own.subs.items ≡ observers_of old.parts.own.subs.items → seen new ≡ queued message n (seen old)
seen_queued old new message n m taken queue places watch =
    let last : Waiting = record { message = message; bytes = n } in
    let waiting : map (λ (w : Waiting). w.message) new.queue.waiting ≡ map (λ (w : Waiting). w.message) old.queue.waiting ++ message ∷ [] =
    ap (λ (q : Queue). map (λ (w : Waiting). w.message) q.waiting) queue ∙ map-append (λ (w : Waiting). w.message) old.queue.waiting (last ∷ []) in
    let bytes : map (λ (w : Waiting). w.bytes) new.queue.waiting ≡ map (λ (w : Waiting). w.bytes) old.queue.waiting ++ n ∷ [] = ap (λ (q : Queue). map (λ (w : Waiting). w.bytes) q.waiting) queue ∙ map-append (λ (w : Waiting). w.bytes) old.queue.waiting (last ∷ []) in
    seen_as new old (suc old.taken) ((seen old).carried.waiting ++ message ∷ []) ((seen old).bytes ++ n ∷ []) (old.places.items ++ old.taken ∷ []) (seen old).observers m taken waiting bytes places watch

pub queued_kept : (old new : Inner) (message : ClientMessage) (n : ℕ) → IsKept old → HasMoved old new → new.taken ≡ suc old.taken → new.queue ≡ pushed old.queue message n → new.places.items ≡ old.places.items ++ old.taken ∷ [] → IsKept new
queued_kept old new message n k m taken queue places =
    let last : Waiting = record { message = message; bytes = n } in
    let waits : length new.queue.waiting ≡ suc (length old.queue.waiting) = ap (λ (q : Queue). length q.waiting) queue ∙ omega (arith, length-append old.queue.waiting (last ∷ [])) in
    let put : length new.places.items ≡ suc (length old.places.items) = ap length places ∙ omega (arith, length-append old.places.items (old.taken ∷ [])) in
    kept_moved old new k m (ap (λ (q : Queue). q.limit) queue) (omega (arith, waits, taken, k.taken)) (omega (arith, waits, put, k.places)) (ap (λ (q : Queue). q.blocks) queue)

-- ---- a text that waits is short

abbrev IsFalseAt : Bool → Taken → Type 0
IsFalseAt b (at_once i) = Unit {0}
IsFalseAt b (to_queue message) = b ≡ false

false_at : (b : Bool) (i : Item) (y : Taken) → IsFalseAt b (cond b (at_once i) y)
false_at true i y = tt
false_at false i (at_once j) = tt
false_at false i (to_queue message) = refl

pub is_little : (connected : Bool) (t : List ℕ) (message : ClientMessage) → taken_text connected t ≡ to_queue message → length t ≤ max_text
is_little connected t message e =
    ltb-false max_text (length t) (subst (IsFalseAt (nat_lt max_text (length t))) e (false_at (nat_lt max_text (length t)) (bad (codes "Bad request") None) (taken_tree connected (json.read t))))
