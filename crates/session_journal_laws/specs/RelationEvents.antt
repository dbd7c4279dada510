-- What a session stands for after an item that comes of a text at once, and after any other item.
use Rattle.std.specs.Prelude.{◌≡◌, ℕ, suc, List, [], ◌∷◌, ◌++◌, length, true, false, refl}
use Rattle.std.proofs.Common.{ap, sym, subst, ◌∙◌, arith}
use Rattle.std.proofs.lemmas.List.{length-append}
use Rattle.merge_model.specs.Publishing.{Call, apply, shown}
use Rattle.value_model.specs.Val.{Entries}
use Rattle.ejson_value.specs.declared.key.Key.{Key}
use Rattle.ejson_value.specs.Key.{key_cmp}
use Rattle.ddp_messages.specs.ClientMessage.{ClientMessage}
use Rattle.ddp_messages.specs.ServerMessage.{ServerMessage}
use Rattle.session_model.specs.Items.{Item, handled_by}
use Rattle.session_model.specs.Items as item
use Rattle.session_model.specs.State.{State, own_after, after, state_of}
use Rattle.session_model.specs.Moments.{Moment}
use Rattle.session_model.specs.Shown.{shown_in, subject, calls_of}
use Rattle.session_model.specs.Out.{own_messages}
use Rattle.session_model.specs.Fits.{CanFollow}
use Rattle.session_model.specs.Taking.{at_once, taken_text}
use Rattle.session_model.specs.Answering.{is_at_once, Answers}
use Rattle.session_journal_laws.specs.Shows.{AreInOrder}
use Rattle.session_journal_laws.specs.Takes.{answers_at_once, answers_in_turn}
use Rattle.session_journal_laws.specs.declared.stored.Stored.{Stored}
use Rattle.session_journal_laws.specs.Resolved.{resolved, IsPlaced, ArePlaced}
use Rattle.session_journal_laws.specs.ResolvedLaws.{items-more, placed-more, placed-append}
use Rattle.session_journal_laws.specs.Stands.{Carried, items_of, Stands, IsAdded}
use Rattle.session_journal_laws.specs.RelationKeeping.{shows_news, added_stands}

-- an item that leaves what is shown wants a call of no news
pub shows_idle : (C : List Moment) → AreInOrder C → (items : List Item) (i : Item) → subject i ≡ 0 →
    shown_in C (state_of items).subs 0 ≡ shown_in C (after (state_of items) i).subs 0 →
    (r : ℕ) → shown key_cmp (apply 0 [] ∷ calls_of C items) r ≡ shown_in C (after (state_of items) i).subs r
shows_idle C order items i none same r =
    subst (λ s. shown key_cmp (apply s [] ∷ calls_of C items) r ≡ shown_in C (after (state_of items) i).subs r) none
    (shows_news C order items i [] (subst (λ s. shown_in C (state_of items).subs s ≡ shown_in C (after (state_of items) i).subs s) (sym none) same) r)

-- an item that comes at once leaves the subscriptions
once_idle : (i : Item) → is_at_once i ≡ true → (subject i ≡ 0) × ((st : State) → (after st i).subs ≡ st.subs)
once_idle item.connect e = (refl, λ st. refl)
once_idle item.fail e = (refl, λ st. refl)
once_idle (item.ping id) e = (refl, λ st. refl)
once_idle item.pong e = (refl, λ st. refl)
once_idle (item.bad reason offending) e = (refl, λ st. refl)
once_idle i e = cc e

module _ (taken : List (List ℕ)) (C : List Moment) (sent : List (List ℕ)) (old new : Carried) (stored : Stored) where
  -- A text is taken that is answered at once.
  pub once_stands : (t : List ℕ) (own : State) (words : List ServerMessage) → AreInOrder C → Stands taken C sent old →
      IsAdded stored (apply 0 []) own words old new →
      let i = resolved old.app old.number (taken ++ t ∷ []) stored in
      taken_text old.own.connected t ≡ at_once i → is_at_once i ≡ true → new.taken ≡ suc old.taken → new.waiting ≡ old.waiting →
      IsPlaced (suc (length taken)) stored →
      CanFollow old.app old.number C old.own i → own ≡ own_after old.own i → words ≡ own_messages C old.number old.own i → Stands (taken ++ t ∷ []) C sent new
  once_stands t own words order p a made once count waiting placed can is_own is_words =
      let items = items_of taken old in
      let i = resolved old.app old.number (taken ++ t ∷ []) stored in
      let one : length (taken ++ t ∷ []) ≡ suc (length taken) = omega (arith, length-append taken (t ∷ [])) in
      let same : items_of (taken ++ t ∷ []) old ≡ items = items-more old.app old.number taken (t ∷ []) old.journal p.placed in
      let idle = once_idle i once in
      added_stands taken (taken ++ t ∷ []) C sent old new stored (apply 0 []) own words order p a same
      (omega (arith, count, p.count, one))
      (subst (ArePlaced (length (taken ++ t ∷ []))) (sym a.journal) (placed-append (length (taken ++ t ∷ [])) old.journal stored
      (placed-more (length taken) (length (taken ++ t ∷ [])) old.journal (omega (arith, one)) p.placed) (subst (λ n. IsPlaced n stored) (sym one) placed)))
      (subst (λ (ms : List ClientMessage). Answers (taken ++ t ∷ []) (items ++ i ∷ []) ms) (sym waiting)
      (answers_at_once taken items old.waiting t i p.answers (ap (λ (st : State). taken_text st.connected t) (sym p.own) ∙ made) once))
      (subst (λ (st : State). CanFollow old.app old.number C st i) p.own can) (is_own ∙ ap (λ (st : State). own_after st i) p.own)
      (is_words ∙ ap (λ (st : State). own_messages C old.number st i) p.own)
      (shows_idle C order items i idle.0 (ap (λ ls. shown_in C ls 0) (sym (idle.1 (state_of items)))))

  -- Any other item: it handles the first message that waits, or none.
  pub later_stands : (call : Call Key Entries) (own : State) (words : List ServerMessage) → AreInOrder C → Stands taken C sent old →
      IsAdded stored call own words old new →
      let i = resolved old.app old.number taken stored in
      is_at_once i ≡ false → new.taken ≡ old.taken → old.waiting ≡ handled_by i ++ new.waiting → IsPlaced (length taken) stored →
      CanFollow old.app old.number C old.own i → own ≡ own_after old.own i → words ≡ own_messages C old.number old.own i →
      ((r : ℕ) → shown key_cmp (call ∷ calls_of C (items_of taken old)) r ≡ shown_in C (after (state_of (items_of taken old)) i).subs r) →
      Stands taken C sent new
  later_stands call own words order p a later count waiting placed can is_own is_words shows =
      let items = items_of taken old in
      let i = resolved old.app old.number taken stored in
      added_stands taken taken C sent old new stored call own words order p a refl (count ∙ p.count)
      (subst (ArePlaced (length taken)) (sym a.journal) (placed-append (length taken) old.journal stored p.placed placed))
      (answers_in_turn taken items new.waiting i (subst (λ (ms : List ClientMessage). Answers taken items ms) waiting p.answers) later)
      (subst (λ (st : State). CanFollow old.app old.number C st i) p.own can) (is_own ∙ ap (λ (st : State). own_after st i) p.own)
      (is_words ∙ ap (λ (st : State). own_messages C old.number st i) p.own) shows
