-- Each step of a session keeps what it stands for.
use Rattle.std.specs.Prelude.{◌≡◌, ℕ, suc, ◌≤◌, ◌==◌, List, [], ◌∷◌, ◌++◌, length, map, true, false, cond, Option, is_some, refl}
use Rattle.std.proofs.Common.{ap, ap₂, sym, subst, ◌∙◌, arith}
use Rattle.std.proofs.lemmas.List.{append_assoc, length-append, map-append}
use Rattle.std.proofs.lemmas.Bool.{eqb-true}
use Rattle.map_model.specs.Maps.{at}
use Rattle.merge_model.specs.Publishing.{Call, apply, drop_sub, renewed, shown, shown_since}
use Rattle.merge_model.specs.Merge.{field}
use Rattle.merge_model.specs.Kept.{merged}
use Rattle.merge_model.specs.KeptLaws.{merged_is, stands_after, stands_at_first}
use Rattle.merge_model.specs.MergeLaws.{one_merge}
use Rattle.value_model.specs.Val.{Entries}
use Rattle.value_model.specs.Order.{text_cmp}
use Rattle.ejson_value.specs.declared.key.Key.{Key}
use Rattle.ejson_value.specs.Key.{key_cmp, key_order, name_order}
use Rattle.ddp_messages.specs.ClientMessage.{ClientMessage}
use Rattle.ddp_messages.specs.ServerMessage.{ServerMessage}
use Rattle.app_model.specs.App.{App}
use Rattle.ddp_messages.specs.Texts.{server_text}
use Rattle.session_model.specs.Items.{Item}
use Rattle.session_model.specs.Methods.{all_told}
use Rattle.session_model.specs.State.{State, started, own_after, after, state_of}
use Rattle.session_model.specs.Moments.{Moment}
use Rattle.session_model.specs.Shown.{shown_in, subject, Calls, call_of, calls_of, merge_of, difference}
use Rattle.session_model.specs.Out.{about, updated, own_messages, messages_of, out_texts, counts_from}
use Rattle.session_model.specs.Fits.{CanFollow, Fits}
use Rattle.session_model.specs.Taking.{to_queue, taken_text}
use Rattle.session_model.specs.Answering.{Answers}
use Rattle.session_journal_laws.specs.Appending.{state-append, calls-append, fits-append, out_texts-append, counts_from-append}
use Rattle.session_journal_laws.specs.LongerLaws.{calls-longer, fits_from-longer, out_texts-longer, counts_from-longer}
use Rattle.session_journal_laws.specs.Shows.{AreInOrder, one_more, calls_show, others_stay, merge_is}
use Rattle.session_journal_laws.specs.Takes.{answers_first, answers_later}
use Rattle.session_journal_laws.specs.declared.stored.Stored.{Stored}
use Rattle.session_journal_laws.specs.Resolved.{resolved, ArePlaced}
use Rattle.session_journal_laws.specs.ResolvedLaws.{items-more, placed-more}
use Rattle.session_journal_laws.specs.Stands.{Box, Carried, items_of, StandsFor, Stands, new_session, fired_state, added_messages, IsAdded}

-- ---- the box

-- it stands for any call that leaves the same shown
pub same_calls : (call other : Call Key Entries) (past : Calls) (kept : Box) →
    ((s : ℕ) → shown key_cmp (other ∷ past) s ≡ shown key_cmp (call ∷ past) s) → StandsFor (other ∷ past) kept → StandsFor (call ∷ past) kept
same_calls call other past kept same stands = record {
  order = stands.order;
  publishers = λ k s. stands.publishers k s ∙ ap (λ m. is_some (at key_cmp m k)) (same s);
  cells = λ k f. let c = stands.cells k f in record { holds = λ s. c.holds s ∙ ap (λ m. field key_cmp text_cmp m k f) (same s); rising = c.rising };
}

-- what a client sees of it is the merge of the calls that it stands for
pub seen_is : (past : Calls) (kept : Box) → StandsFor past kept → merged kept ≡ merge_of past
seen_is past kept stands =
    let shows = shown key_cmp past in
    let since = shown_since key_cmp text_cmp past in
    one_merge key_order name_order shows since (merged kept) (merge_of past) (merged_is key_order name_order shows since kept stands) (merge_is past)

-- ---- at first

pub new_stands : (app : App) (number : ℕ) (C : List Moment) → Stands [] C [] (new_session app number)
new_stands app number C = record {
  count = refl;
  placed = tt;
  fits = tt;
  answers = answers_first;
  own = refl;
  shows = stands_at_first key_order name_order;
  texts = refl;
  counts = refl;
}

-- ---- one item more

module _ (C : List Moment) (order : AreInOrder C) (items : List Item) (i : Item) where
  abbrev before : Calls
  before = calls_of C items

  -- a call of the subscription that the item is about, with news that lead to what it shows then
  pub shows_news : (ns : List (Key × Option Entries)) →
      renewed key_cmp (shown_in C (state_of items).subs (subject i)) ns ≡ shown_in C (after (state_of items) i).subs (subject i) →
      (r : ℕ) → shown key_cmp (apply (subject i) ns ∷ before) r ≡ shown_in C (after (state_of items) i).subs r
  shows_news ns leads r =
      let st = state_of items in
      let s = subject i in
      elim (r == s) as (λ c. r == s ≡ c → cond c (renewed key_cmp (shown key_cmp before r) ns) (shown key_cmp before r) ≡ shown_in C (after st i).subs r) [
        | true ↦ λ is.
            let same : r ≡ s = eqb-true r s is in
            ap (λ m. renewed key_cmp m ns) (calls_show C order items r ∙ ap (shown_in C st.subs) same) ∙ (leads ∙ sym (ap (shown_in C (after st i).subs) same))
        | false ↦ λ is. calls_show C order items r ∙ sym (others_stay C st i r is)
      ] refl

  -- the call that ends it
  pub shows_end : shown_in C (after (state_of items) i).subs (subject i) ≡ [] → (r : ℕ) →
      shown key_cmp (drop_sub (subject i) ∷ before) r ≡ shown_in C (after (state_of items) i).subs r
  shows_end ended r =
      let st = state_of items in
      let s = subject i in
      elim (r == s) as (λ c. r == s ≡ c → cond c [] (shown key_cmp before r) ≡ shown_in C (after st i).subs r) [
        | true ↦ λ is. let same : r ≡ s = eqb-true r s is in sym (ap (shown_in C (after st i).subs) same ∙ ended)
        | false ↦ λ is. calls_show C order items r ∙ sym (others_stay C st i r is)
      ] refl

module _ (taken taken2 : List (List ℕ)) (C : List Moment) (sent : List (List ℕ)) (old new : Carried) (stored : Stored) (call : Call Key Entries)
    (own : State) (words : List ServerMessage) where
  -- The item is one that may follow, what it makes of the session is what the code made of it, and the call shows what the subscriptions show then:
  -- the new session stands for
  -- the same moments and sent texts, and for these texts taken.
  pub added_stands : AreInOrder C → Stands taken C sent old → IsAdded stored call own words old new →
      let items = items_of taken old in
      let i = resolved old.app old.number taken2 stored in
      let st = state_of items in
      items_of taken2 old ≡ items → new.taken ≡ length taken2 → ArePlaced (length taken2) new.journal → Answers taken2 (items ++ i ∷ []) new.waiting →
      CanFollow old.app old.number C st i → own ≡ own_after st i → words ≡ own_messages C old.number st i →
      ((r : ℕ) → shown key_cmp (call ∷ calls_of C items) r ≡ shown_in C (after st i).subs r) →
      Stands taken2 C sent new
  added_stands order p a same count placed answers can is_own is_words shows =
      let items = items_of taken old in
      let i = resolved old.app old.number taken2 stored in
      let st = state_of items in
      let past = calls_of C items in
      let here : items_of taken2 new ≡ items ++ i ∷ [] =
      ap₂ (λ (app : App) (number : ℕ). map (resolved app number taken2) new.journal) a.app a.number
      ∙ (ap (map (resolved old.app old.number taken2)) a.journal
      ∙ (map-append (resolved old.app old.number taken2) old.journal (stored ∷ []) ∙ ap (λ (xs : List Item). xs ++ i ∷ []) same)) in
      let now : state_of (items ++ i ∷ []) ≡ after st i = state-append started items i in
      let calls : calls_of C (items ++ i ∷ []) ≡ call_of C st i ∷ past = calls-append C [] started items i in
      let next : (r : ℕ) → shown key_cmp (call ∷ past) r ≡ shown key_cmp (call_of C st i ∷ past) r = λ r. shows r
      ∙ sym (one_more C order past st i (calls_show C order items) r) in
      let stands : StandsFor (call_of C st i ∷ past) new.box =
      same_calls (call_of C st i) call past new.box next (stands_after key_order name_order call past old.box new.box p.shows a.box a.order) in
      let messages : added_messages own words old.box new.box ≡ messages_of C old.number past st i =
      ap₂ (λ m n. map about (difference m n) ++ (words ++ map updated (all_told own.subs own.methods))) (seen_is past old.box p.shows)
      (seen_is (call_of C st i ∷ past) new.box stands)
      ∙ ap₂ (λ (ws : List ServerMessage) (o : State). map about (difference (merge_of past) (merge_of (call_of C st i ∷ past)))
      ++ (ws ++ map updated (all_told o.subs o.methods))) is_words is_own in
      record {
        count = count;
        placed = placed;
        fits = subst (Fits new.app new.number C) (sym here)
            (subst (λ (app : App). Fits app new.number C (items ++ i ∷ [])) (sym a.app)
            (subst (λ n. Fits old.app n C (items ++ i ∷ [])) (sym a.number) (fits-append old.app old.number C started items i p.fits can)));
        answers = subst (λ (xs : List Item). Answers taken2 xs new.waiting) (sym here) answers;
        own = a.own ∙ (ap fired_state is_own ∙ sym (ap state_of here ∙ now));
        shows = subst (λ (cs : Calls). StandsFor cs new.box) (sym (ap (calls_of C) here ∙ calls)) stands;
        texts = ap (λ (ts : List (List ℕ)). sent ++ ts) (a.outbox ∙ ap (λ (ms : List ServerMessage). old.outbox ++ map server_text ms) messages)
            ∙ (sym (append_assoc sent old.outbox (map server_text (messages_of C old.number past st i)))
            ∙ (ap (λ (ts : List (List ℕ)). ts ++ map server_text (messages_of C old.number past st i)) p.texts
            ∙ sym (ap₂ (λ n (xs : List Item). out_texts C n xs) a.number here ∙ out_texts-append old.number C items i)));
        counts = a.counts ∙ (ap₂ (λ (ns : List ℕ) (ms : List ServerMessage). ns ++ length ms ∷ []) p.counts messages
            ∙ sym (ap₂ (λ n (xs : List Item). counts_from C n [] started xs) a.number here ∙ counts_from-append old.number C [] started items i));
      }

-- ---- a text that waits

pub queued_stands : (taken : List (List ℕ)) (C : List Moment) (sent : List (List ℕ)) (s : Carried) (t : List ℕ) (message : ClientMessage) →
    Stands taken C sent s → taken_text s.own.connected t ≡ to_queue message →
    Stands (taken ++ t ∷ []) C sent (record s { taken = suc s.taken; waiting = s.waiting ++ message ∷ [] })
queued_stands taken C sent s t message p e =
    let longer : length taken ≤ length (taken ++ t ∷ []) = omega (arith, length-append taken (t ∷ [])) in
    let same : items_of (taken ++ t ∷ []) s ≡ items_of taken s = items-more s.app s.number taken (t ∷ []) s.journal p.placed in
    record {
      count = omega (arith, p.count, length-append taken (t ∷ []));
      placed = placed-more (length taken) (length (taken ++ t ∷ [])) s.journal longer p.placed;
      fits = subst (Fits s.app s.number C) (sym same) p.fits;
      answers = subst (λ (xs : List Item). Answers (taken ++ t ∷ []) xs (s.waiting ++ message ∷ [])) (sym same)
          (answers_later taken (items_of taken s) s.waiting t message p.answers (ap (λ (st : State). taken_text st.connected t) (sym p.own) ∙ e));
      own = p.own ∙ ap state_of (sym same);
      shows = subst (λ (xs : List Item). StandsFor (calls_of C xs) s.box) (sym same) p.shows;
      texts = p.texts ∙ ap (out_texts C s.number) (sym same);
      counts = p.counts ∙ ap (counts_from C s.number [] started) (sym same);
    }

-- ---- a text that is sent

pub sent_stands : (taken : List (List ℕ)) (C : List Moment) (sent rest : List (List ℕ)) (s : Carried) (t : List ℕ) → Stands taken C sent s →
    s.outbox ≡ t ∷ rest → Stands taken C (sent ++ t ∷ []) (record s { outbox = rest })
sent_stands taken C sent rest s t p e = record {
  count = p.count;
  placed = p.placed;
  fits = p.fits;
  answers = p.answers;
  own = p.own;
  shows = p.shows;
  texts = append_assoc sent (t ∷ []) rest ∙ (ap (λ (ts : List (List ℕ)). sent ++ ts) (sym e) ∙ p.texts);
  counts = p.counts;
}

-- ---- moments that come later

pub longer_stands : (taken : List (List ℕ)) (C more : List Moment) (sent : List (List ℕ)) (s : Carried) → Stands taken C sent s →
    Stands taken (C ++ more) sent s
longer_stands taken C more sent s p =
    let items = items_of taken s in record {
      count = p.count;
      placed = p.placed;
      fits = fits_from-longer s.app s.number C more started items p.fits;
      answers = p.answers;
      own = p.own;
      shows = subst (λ (cs : Calls). StandsFor cs s.box) (sym (calls-longer s.app s.number C more items p.fits)) p.shows;
      texts = p.texts ∙ sym (out_texts-longer s.app s.number C more items p.fits);
      counts = p.counts ∙ sym (counts_from-longer s.app s.number C more [] started items p.fits tt);
    }
