-- A subscription that is loaded, goes on and is fed.
use Rattle.std.proofs.Common.{◌≡◌, ℕ, ◌+◌, List, [], ◌∷◌, length, map, Bool, true, false, cond, Option, Some, None, refl, ap, ap₂, sym, subst, ◌∙◌, arith}
use Rattle.std.specs.Prelude.{◌==◌, ◌&&◌, ◌||◌, nat_le, max, option_map, unwrap_or, is_none, IfSome}
use Rattle.merge_model.specs.Publishing.{Call, apply}
use Rattle.value_model.specs.Val.{Entries}
use Rattle.ejson_value.specs.declared.key.Key.{Key}
use Rattle.ejson_value.specs.declared.change.Change.{Change}
use Rattle.ejson_value.specs.declared.change.Publish.{Publish}
use Rattle.ejson_value.specs.Changes.{news_of}
use Rattle.ejson_value.specs.Rows.{Rows}
use Rattle.method_queue.specs.Queue.{Queue}
use Rattle.session_core.specs.publication.Cursors.{ACursors}
use Rattle.session_core.specs.publication.Published.{IsQuery}
use Rattle.session_core.specs.live_observer.Observing.{AnObserver, APlan, cursors_of, StandsAt, IsPlanOf, carried}
use Rattle.ddp_messages.specs.Texts.{server_text}
use Rattle.session_core.specs.session_model.Items.{load, advance}
use Rattle.session_core.specs.session_model.Items as item
use Rattle.session_core.specs.session_model.Subscriptions.{Live, of_sub, cursor_of, may_load, loaded, moved, advanced}
use Rattle.session_core.specs.session_model.Methods.{Blocking}
use Rattle.session_core.specs.session_model.State.{State, or_zero, own_after}
use Rattle.session_core.specs.session_model.Out.{ready}
use Rattle.session_core.specs.session_journal_laws.declared.stored.Stored.TheVariants as stored
use Rattle.session_core.specs.session_state.declared.own.Step.TheVariants as step
use Rattle.session_core.specs.session_state.Own.{as_state, stepped, observers_after}
use Rattle.session_core.specs.session_state.Subs.{observers_of, live_of}
use Rattle.session_core.specs.declared.adding.Addition.{Addition}
use Rattle.session_core.specs.session_laws.Session.{ASession, is_full, is_at_work, can_load, place_on, place_after}
use Rattle.session_core.specs.session_model.Observers.{observer_at, observers_with}
use Rattle.session_core.specs.session_laws.LoadingLaws.{advanced_is, with_same}
use Rattle.session_core.specs.session_laws.Events.{HasLoaded, HasAdvanced, HasFed, Tells, observer_of}
use Rattle.session_core.specs.declared.inner.Inner.{Inner}
use Rattle.session_core.specs.Kept.{seen, IsKept}
use Rattle.session_core.specs.Adding.{IsAddedTo}
use Rattle.session_core.specs.Observed.{IsObserved, committed}
use Rattle.session_core.proofs.Keeping.{HasMoved, HasStayed, added_moved, has_done, kept_after, waits_alike, waits_more, stays_then}

-- ---- look-ups

-- what is said of a live subscription
pub of_live : {A : Type 0} (f : Live → A) (d : A) (s : ℕ) (ls : List Live) (l : Live) → live_of s ls ≡ Some l → of_sub f d s ls ≡ f l
of_live f d s [] l e = cc e
of_live f d s (x ∷ ls) l e = elim (s == x.sub) as (λ b. cond b (Some x) (live_of s ls) ≡ Some l → cond b (f x) (of_sub f d s ls) ≡ f l) [
  | true ↦ λ c. ap (λ (o : Option Live). f (unwrap_or o x)) c
  | false ↦ λ c. of_live f d s ls l c
] e

-- one that isn't live may not be loaded
pub is_live : (s place : ℕ) (ls : List Live) → may_load s place ls ≡ true → live_of s ls ≡ None → ⊥
is_live s place [] may e = cc may
is_live s place (x ∷ ls) may e = elim (s == x.sub) as (λ b. cond b (is_none x.cursor && nat_le x.floor place) (may_load s place ls) ≡ true → cond b (Some x) (live_of s ls) ≡ None → ⊥) [
  | true ↦ λ m c. cc c
  | false ↦ λ m c. is_live s place ls m c
] may e

second : (a b : Bool) → (a && b) ≡ true → b ≡ true
second true b e = e
second false true e = refl
second false false e = e

pub may : (sub place : ℕ) (s : ASession) → can_load sub place s ≡ true → may_load sub place s.carried.own.subs ≡ true
may sub place s can = second (is_at_work s) _ can

-- ---- where a subscription comes to

place_went : (c : Option ℕ) (count place : ℕ) → place_on c count ≡ Some place → (from : ℕ) × ((c ≡ Some from) × (from + count ≡ place))
place_went None count place e = cc e
place_went (Some f) count place e =
    elim ((count == 0) || nat_le 18446744073709551616 (f + count)) as (λ b. cond b None (Some (f + count)) ≡ Some place → (from : ℕ) × ((Some f ≡ Some from) × (from + count ≡ place))) [
      | true ↦ λ c. cc c
      | false ↦ λ c. (f, (refl, ap (λ (o : Option ℕ). unwrap_or o place) c))
    ] e

pub goes : (sub count place : ℕ) (s : ASession) → place_after sub count s ≡ Some place → place_on (cursor_of sub s.carried.own.subs) count ≡ Some place
goes sub count place s e = elim (is_at_work s) as (λ b. cond b (place_on (cursor_of sub s.carried.own.subs) count) None ≡ Some place → place_on (cursor_of sub s.carried.own.subs) count ≡ Some place) [ true ↦ λ c. c | false ↦ λ c. cc c ] e

does_advance : (st : State) (sub count place : ℕ) → place_on (cursor_of sub st.subs) count ≡ Some place → stepped (step.Show sub place) st ≡ own_after st (item.advance sub count)
does_advance st sub count place e = by (place_went (cursor_of sub st.subs) count place e)
  where
    by : (from : ℕ) × ((cursor_of sub st.subs ≡ Some from) × (from + count ≡ place)) → stepped (step.Show sub place) st ≡ own_after st (item.advance sub count)
    by w =
        let from = w.0 in
        let is = w.1.0 in
        let there = w.1.1 in
        ap₂ (λ (ls : List Live) (r : ℕ). record st { subs = ls; reach = r }) (ap (λ n. loaded sub n st.subs) (sym there) ∙ sym (advanced_is sub from count st.subs is))
        (ap (max st.reach) (sym there ∙ sym (ap (λ (o : Option ℕ). or_zero o + count) is)))

-- ---- observers

with_loaded : (s place : ℕ) (o : Option AnObserver) (ls : List Live) (os : List (Option AnObserver)) → observers_with s o (loaded s place ls) os ≡ observers_with s o ls os
with_loaded s place o [] os = refl
with_loaded s place o (l ∷ ls) [] = elim (s == l.sub) as (λ b. observers_with s o (cond b (record l { cursor = Some place } ∷ ls) (l ∷ loaded s place ls)) [] ≡ []) [ true ↦ refl | false ↦ refl ]
with_loaded s place o (l ∷ ls) (x ∷ os) = elim (s == l.sub) as (λ b. s == l.sub ≡ b → observers_with s o (cond b (record l { cursor = Some place } ∷ ls) (l ∷ loaded s place ls)) (x ∷ os) ≡ cond b (o ∷ os) (x ∷ observers_with s o ls os)) [
  | true ↦ λ is. ap (λ b. cond b (o ∷ os) (x ∷ observers_with s o ls os)) is
  | false ↦ λ is. ap (λ b. cond b (o ∷ os) (x ∷ observers_with s o (loaded s place ls) os)) is ∙ ap (λ (xs : List (Option AnObserver)). x ∷ xs) (with_loaded s place o ls os)
] refl

with_advanced : (s count : ℕ) (o : Option AnObserver) (ls : List Live) (os : List (Option AnObserver)) → observers_with s o (advanced s count ls) os ≡ observers_with s o ls os
with_advanced s count o [] os = refl
with_advanced s count o (l ∷ ls) [] = elim (s == l.sub) as (λ b. observers_with s o (cond b (record l { cursor = moved count l.cursor } ∷ ls) (l ∷ advanced s count ls)) [] ≡ []) [ true ↦ refl | false ↦ refl ]
with_advanced s count o (l ∷ ls) (x ∷ os) = elim (s == l.sub) as (λ b. s == l.sub ≡ b → observers_with s o (cond b (record l { cursor = moved count l.cursor } ∷ ls) (l ∷ advanced s count ls)) (x ∷ os) ≡ cond b (o ∷ os) (x ∷ observers_with s o ls os)) [
  | true ↦ λ is. ap (λ b. cond b (o ∷ os) (x ∷ observers_with s o ls os)) is
  | false ↦ λ is. ap (λ b. cond b (o ∷ os) (x ∷ observers_with s o (advanced s count ls) os)) is ∙ ap (λ (xs : List (Option AnObserver)). x ∷ xs) (with_advanced s count o ls os)
] refl

at_advanced : (s count : ℕ) (ls : List Live) (os : List (Option AnObserver)) → observer_at s (advanced s count ls) os ≡ observer_at s ls os
at_advanced s count [] os = refl
at_advanced s count (l ∷ ls) [] = elim (s == l.sub) as (λ b. observer_at {A = AnObserver} s (cond b (record l { cursor = moved count l.cursor } ∷ ls) (l ∷ advanced s count ls)) [] ≡ None) [ true ↦ refl | false ↦ refl ]
at_advanced s count (l ∷ ls) (x ∷ os) = elim (s == l.sub) as (λ b. s == l.sub ≡ b → observer_at s (cond b (record l { cursor = moved count l.cursor } ∷ ls) (l ∷ advanced s count ls)) (x ∷ os) ≡ cond b x (observer_at s ls os)) [
  | true ↦ λ is. ap (λ b. cond b x (observer_at s ls os)) is
  | false ↦ λ is. ap (λ b. cond b x (observer_at s (advanced s count ls) os)) is ∙ at_advanced s count ls os
] refl

pub observer_is : (sub : ℕ) (a : Inner) → observer_at sub (as_state a.parts.own).subs (observers_of a.parts.own.subs.items) ≡ observer_of sub (seen a)
observer_is sub a = refl

-- ---- what is kept

module _ (sub place : ℕ) (a : Addition) (old mid new : Inner) (step : a.step ≡ step.Show sub place) where
  pub shown_kept : (call : Call Key Entries) (d : IsAddedTo a call old mid) (m : HasMoved mid new) → HasStayed mid new → IsKept old → is_full (seen old) ≡ false → new.queue.blocks ≡ mid.queue.blocks → IsKept new
  shown_kept call d m s k room blocks =
      let t = stays_then old mid new d.stays s in
      kept_after a call old mid new d m k room t.limit (omega (arith, t.taken, k.taken, ap length t.waiting)) (ap length t.places ∙ (k.places ∙ sym (ap length t.waiting)))
      (blocks ∙ (ap (λ (q : Queue). q.blocks) d.stays.queue ∙ (k.blocks ∙ ap (λ x. option_map (λ (b : Blocking). b.k) (stepped x (as_state old.parts.own)).blocking) (sym step))))

  observers_mid : (call : Call Key Entries) (d : IsAddedTo a call old mid) → observers_of mid.parts.own.subs.items ≡ observers_of old.parts.own.subs.items
  observers_mid call d = d.gained.observers ∙ ap (λ x. observers_after x (as_state old.parts.own).subs (observers_of old.parts.own.subs.items)) step

  -- ---- it is loaded

  pub has_loaded : (rows : Rows) (answer : List Publish) (o : AnObserver) (l : Live) (d : IsAddedTo a (apply sub (news_of answer)) old mid) (m : HasMoved mid new) → HasStayed mid new → live_of sub (as_state old.parts.own).subs ≡ Some l →
      a.item ≡ stored.Load sub place → a.id ≡ None → a.words.items ≡ server_text (ready l.id) ∷ [] → IsQuery l.cursors rows answer → cursors_of o ≡ l.cursors → StandsAt o rows →
      observers_of new.parts.own.subs.items ≡ observers_with sub (Some o) (as_state mid.parts.own).subs (observers_of mid.parts.own.subs.items) → HasLoaded sub place rows (seen old) (seen new)
  has_loaded rows answer o l d m s live item id words query cursors stands watch =
      let subs = (as_state old.parts.own).subs in
      let mine = of_live (λ (x : Live). x.cursors) [] sub subs l live in
      record {
        answer = answer;
        query = subst (λ (cs : ACursors). IsQuery cs rows answer) (sym mine) query;
        done = has_done a (apply sub (news_of answer)) old mid new d m 0 (load sub place) item id (ap (λ x. stepped x (as_state old.parts.own)) step) (words ∙ ap (λ (ids : List (List ℕ)). map server_text (map ready ids)) (sym (of_live (λ (x : Live). x.id ∷ []) [] sub subs l live)));
        waits = waits_alike old new (stays_then old mid new d.stays s);
        observer = o;
        cursors = cursors ∙ sym mine;
        stands = stands;
        observers = watch ∙ (ap₂ (observers_with sub (Some o)) (ap (λ (st : State). st.subs) d.gained.own ∙ ap (λ x. (stepped x (as_state old.parts.own)).subs) step) (observers_mid (apply sub (news_of answer)) d) ∙ with_loaded sub place (Some o) subs (seen old).observers);
      }

  -- ---- it goes on

  pub has_gone : (count : ℕ) (news : List Publish) (d : IsAddedTo a (apply sub (news_of news)) old mid) (m : HasMoved mid new) → HasStayed mid new → place_after sub count (seen old) ≡ Some place → a.item ≡ stored.Advance sub count → a.id ≡ None → a.words.items ≡ [] →
      observers_of new.parts.own.subs.items ≡ observers_of mid.parts.own.subs.items → HasFed sub count news (seen old) (seen new)
  has_gone count news d m s there item id words watch = record {
    done = has_done a (apply sub (news_of news)) old mid new d m 0 (advance sub count) item id (ap (λ x. stepped x (as_state old.parts.own)) step ∙ does_advance (as_state old.parts.own) sub count place (goes sub count place (seen old) there)) words;
    waits = waits_alike old new (stays_then old mid new d.stays s);
    observers = watch ∙ observers_mid (apply sub (news_of news)) d;
  }

-- ---- and its observer with it

module _ (sub count : ℕ) (changes : List Change) (news : List Publish) (old : ASession) (mid new : Inner) (f : HasFed sub count news old (seen mid)) where
  subs_mid : (as_state mid.parts.own).subs ≡ advanced sub count old.carried.own.subs
  subs_mid = ap (λ (st : State). st.subs) f.done.added.own

  -- the observer is the one that it was
  pub observer_stays : observer_at sub (as_state mid.parts.own).subs (observers_of mid.parts.own.subs.items) ≡ observer_of sub old
  observer_stays = ap₂ (observer_at sub) subs_mid f.observers ∙ at_advanced sub count old.carried.own.subs old.observers

  pub plan_is : (plan : Option APlan) → IsObserved (observer_of sub old) changes news plan → IfSome plan (λ p. IfSome (observer_at sub (as_state mid.parts.own).subs (observers_of mid.parts.own.subs.items)) (λ o. IsPlanOf o p))
  plan_is None h = tt
  plan_is (Some p) h = subst (λ (x : Option AnObserver). IfSome x (λ o. IsPlanOf o p)) (sym observer_stays) (by (observer_of sub old) h)
    where
      by : (o : Option AnObserver) → IsObserved o changes news (Some p) → IfSome o (λ o. IsPlanOf o p)
      by None h = absurd h
      by (Some o) h = h.0

  told_by : (o : Option AnObserver) (p : APlan) → IsObserved o changes news (Some p) → IfSome o (Tells changes news p)
  told_by None p h = absurd h
  told_by (Some o) p h = h.1

  watched_by : (plan : Option APlan) → IsObserved (observer_of sub old) changes news plan → observers_of new.parts.own.subs.items ≡ committed sub plan (as_state mid.parts.own).subs (observers_of mid.parts.own.subs.items) →
      (p : APlan) × (IfSome (observer_of sub old) (Tells changes news p) × ((seen new).observers ≡ observers_with sub (option_map (λ (o : AnObserver). carried o p) (observer_of sub old)) old.carried.own.subs old.observers))
  watched_by None h watch = by (observer_of sub old) refl h
    where
      by : (o : Option AnObserver) → observer_of sub old ≡ o → IsObserved o changes news None →
          (p : APlan) × (IfSome (observer_of sub old) (Tells changes news p) × ((seen new).observers ≡ observers_with sub (option_map (λ (o : AnObserver). carried o p) (observer_of sub old)) old.carried.own.subs old.observers))
      by None e h = (
        [],
        (
          subst (λ (x : Option AnObserver). IfSome x (Tells changes news [])) (sym e) tt,
          watch ∙ (f.observers ∙ (sym (with_same sub old.carried.own.subs old.observers) ∙ ap (λ (x : Option AnObserver). observers_with sub x old.carried.own.subs old.observers) (e ∙ sym (ap (option_map (λ (o : AnObserver). carried o [])) e)))),
        ),
      )
      by (Some o) e h = absurd h
  watched_by (Some p) h watch = (
    p,
    (
      told_by (observer_of sub old) p h,
      watch ∙ (ap₂ (observers_with sub (option_map (λ (o : AnObserver). carried o p) (observer_at sub (as_state mid.parts.own).subs (observers_of mid.parts.own.subs.items)))) subs_mid f.observers
          ∙ (with_advanced sub count (option_map (λ (o : AnObserver). carried o p) (observer_at sub (as_state mid.parts.own).subs (observers_of mid.parts.own.subs.items))) old.carried.own.subs old.observers
          ∙ ap (λ (x : Option AnObserver). observers_with sub (option_map (λ (o : AnObserver). carried o p) x) old.carried.own.subs old.observers) observer_stays)),
    ),
  )

  pub has_advanced : (plan : Option APlan) → HasMoved mid new → HasStayed mid new → IsObserved (observer_of sub old) changes news plan →
      observers_of new.parts.own.subs.items ≡ committed sub plan (as_state mid.parts.own).subs (observers_of mid.parts.own.subs.items) → HasAdvanced sub count changes old (seen new)
  has_advanced plan m s h watch =
      let w = watched_by plan h watch in
      record {
        news = news;
        plan = w.0;
        told = w.1.0;
        done = added_moved (stored.Advance sub count) None (apply sub (news_of news)) (own_after old.carried.own (advance sub count)) [] old mid new m f.done;
        waits = waits_more old mid new f.waits s;
        observers = w.1.1;
      }
