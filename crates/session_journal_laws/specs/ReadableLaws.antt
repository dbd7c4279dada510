-- Laws: The texts of a journal read as its messages.
use Rattle.std.specs.Prelude.{◌≡◌, ℕ, zero, suc, ◌<◌, ◌≤◌, ◌==◌, List, [], ◌∷◌, ◌++◌, length, map, filter, Bool, true, false, not, cond, Option, Some}
use Rattle.std.specs.Prelude.{None, IfSome, Ok, option_and_then, refl}
use Rattle.std.proofs.Common.{ap, ap₂, sym, ◌∙◌, arith}
use Rattle.std.specs.Ordering.{eq_by_cmp}
use Rattle.std.specs.Map.{keys_of}
use Rattle.map_model.specs.Maps.{at, keyed, collect, union, IsSorted}
use Rattle.map_model.specs.MapLaws.{sorted-nil}
use Rattle.map_model.specs.Differences.{Step, between, new_fields, cleared, changed_unless_same}
use Rattle.map_model.specs.DifferenceLaws.{sorted-new_fields}
use Rattle.merge_model.specs.Publishing.{shown, shown_since}
use Rattle.value_model.specs.Val.{Val, object, Entries, fields_of}
use Rattle.value_model.specs.Depth.{fields_depth}
use Rattle.value_model.specs.Order.{text_cmp, compare}
use Rattle.value_model.specs.Valid.{IsDocument, HaveValues}
use Rattle.ejson_value.specs.declared.fault.Fault.{Fault}
use Rattle.ejson_value.specs.declared.key.Key.{Key}
use Rattle.ejson_value.specs.Key.{key_cmp, name_order}
use Rattle.ejson_value.specs.Rows.{Rows}
use Rattle.ddp_messages.specs.Answers.{server_answer}
use Rattle.ddp_messages.specs.Limits.{IsShort, IsShallow}
use Rattle.ddp_messages.specs.ServerMessage.{ServerMessage}
use Rattle.ddp_messages.specs.MessageLaws.{server_text_back}
use Rattle.program_steps.specs.declared.outcome.Status.{Status}
use Rattle.program_steps.specs.Runs.{Outcome, done, failed, End}
use Rattle.publication.specs.Cursors.{ACursors}
use Rattle.app_model.specs.App.{App}
use Rattle.ddp_messages.specs.Texts.{server_text}
use Rattle.session_model.specs.Texts.{or_unknown, message_in, messages_in}
use Rattle.session_model.specs.Items.{Item, id_of}
use Rattle.session_model.specs.Items as item
use Rattle.session_model.specs.Subscriptions.{Live, ids_of, loaded, moved, advanced, closed, is_open}
use Rattle.session_model.specs.Methods.{Phase, running, refused, finished, Method, id_at, turned, fire, told_now, all_told}
use Rattle.session_model.specs.State.{State, started, opening, own_after, after}
use Rattle.session_model.specs.Moments.{Moment, moment_at, rows_of, run_of, rows_at, end_at}
use Rattle.session_model.specs.Shown.{shown_at, shown_in, Calls, call_of, merge_of, difference}
use Rattle.session_model.specs.Out.{about, ready, updated, result_by, results_by, history_full, all_refused_with, own_messages, told_after, words_of}
use Rattle.session_model.specs.Out.{messages_of, out_from, out, out_texts}
use Rattle.session_model.specs.Fits.{CanFollow, FitsFrom, Fits}
use Rattle.session_model.specs.Kept.{IsStored, AreStored, HasResult, IsKept, AreKept}
use Rattle.session_journal_laws.specs.PublicationLaws.{stored_queried}
use Rattle.session_journal_laws.specs.Shows.{AreInOrder, Shows, one_more, merge_is, merge_same}
use Rattle.session_journal_laws.specs.DocumentsLaws.{merge_stored}
use Rattle.session_journal_laws.specs.Readable.{AreCallsShort, AreIdsShort, AreLiveShort, AreRead, AreReadable, AreShort, IsRead, IsReadable, is_new}

-- ---- messages within the limits

pub AreReadable-append : (xs ys : List ServerMessage) → AreReadable xs → AreReadable ys → AreReadable (xs ++ ys)
AreReadable-append [] ys a b = b
AreReadable-append (x ∷ xs) ys a b = (a.0, AreReadable-append xs ys a.1 b)

-- ---- of documents

kept_values : (keep : List ℕ × Val → Bool) (es : Entries) → HaveValues (fields_of es) → HaveValues (fields_of (filter keep es))
kept_values keep [] h = tt
kept_values keep (e ∷ es) h =
    elim (keep e) as
    (λ b. HaveValues (fields_of (cond b (e ∷ filter keep es) (filter keep es)))) [ true ↦ (h.0, kept_values keep es h.1) | false ↦ kept_values keep es h.1 ]

kept_depth : (keep : List ℕ × Val → Bool) (es : Entries) → fields_depth (fields_of (filter keep es)) ≤ fields_depth (fields_of es)
kept_depth keep [] = omega arith
kept_depth keep (e ∷ es) =
    let rest = kept_depth keep es in
    elim (keep e) as (λ b. fields_depth (fields_of (cond b (e ∷ filter keep es) (filter keep es))) ≤ fields_depth (fields_of (e ∷ es)))
    [ true ↦ omega (arith, rest) | false ↦ omega (arith, rest) ]

changed_readable : (key : Key) (fields : Entries) (names : List (List ℕ)) → 0 < length key.id → IsDocument fields → IsShallow (object (fields_of fields)) →
    IfSome (changed_unless_same text_cmp (eq_by_cmp compare) fields names) (λ s. IsReadable (about (key, s)))
changed_readable key [] [] id doc shallow = tt
changed_readable key (e ∷ fields) names id doc shallow = (doc, (id, shallow))
changed_readable key [] (n ∷ names) id doc shallow = (doc, (id, shallow))

step_readable : (key : Key) (x y : Option Entries) → IfSome x (IsStored key) → IfSome y (IsStored key) →
    IfSome (between text_cmp (eq_by_cmp compare) x y) (λ s. IsReadable (about (key, s)))
step_readable key None None g h = tt
step_readable key None (Some b) g h = (h.1, (h.0, h.2))
step_readable key (Some a) None g h = (tt, g.0)
step_readable key (Some a) (Some b) g h =
    let same = eq_by_cmp compare in
    changed_readable key (new_fields text_cmp same a b) (cleared text_cmp same a b) h.0
    (record { names = sorted-new_fields name_order same a b h.1.names; values = kept_values (is_new a) b h.1.values })
    (omega (arith, kept_depth (is_new a) b, h.2))

keyed_readable : (key : Key) (s : Option (Step (List ℕ) Val)) (rest : List (Key × Step (List ℕ) Val)) → IfSome s (λ s. IsReadable (about (key, s))) →
    AreReadable (map about rest) →
    AreReadable (map about (keyed key s rest))
keyed_readable key None rest h r = r
keyed_readable key (Some s) rest h r = (h, r)

collected_readable : (f : Key → Option (Step (List ℕ) Val)) → ((k : Key) → IfSome (f k) (λ s. IsReadable (about (k, s)))) → (ks : List Key) →
    AreReadable (map about (collect f ks))
collected_readable f all [] = tt
collected_readable f all (k ∷ ks) = keyed_readable k (f k) (collect f ks) (all k) (collected_readable f all ks)

difference_readable : (a b : Rows) → AreStored a → AreStored b → AreReadable (map about (difference a b))
difference_readable a b g h =
    collected_readable (λ k. between text_cmp (eq_by_cmp compare) (at key_cmp a k) (at key_cmp b k))
    (λ k. step_readable k (at key_cmp a k) (at key_cmp b k) (g k) (h k)) (keys_of (union key_cmp a b))

-- what a subscription shows can be stored
module _ (C : List Moment) (kept : AreKept C) where
  pub in_order : AreInOrder C
  in_order place = by (moment_at C place) (kept place)
    where
      by : (o : Option Moment) → IfSome o IsKept → IsSorted key_cmp (rows_of o)
      by None h = sorted-nil key_cmp
      by (Some m) h = h.order

  rows_stored : (place : ℕ) → AreStored (rows_at C place)
  rows_stored place = by (moment_at C place) (kept place)
    where
      by : (o : Option Moment) → IfSome o IsKept → AreStored (rows_of o)
      by None h = λ key. tt
      by (Some m) h = h.stored

  stored_at : (cursors : ACursors) (cursor : Option ℕ) → AreStored (shown_at C cursors cursor)
  stored_at cursors None = λ key. tt
  stored_at cursors (Some place) = stored_queried cursors (rows_at C place) (in_order place) (rows_stored place)

  pub stored_shown : (ls : List Live) (s : ℕ) → AreStored (shown_in C ls s)
  stored_shown [] s = λ key. tt
  stored_shown (l ∷ ls) s =
      let here = stored_at l.cursors l.cursor in
      let rest = stored_shown ls s in
      elim (s == l.sub) as (λ b. AreStored (cond b (shown_at C l.cursors l.cursor) (shown_in C ls s))) [ true ↦ here | false ↦ rest ]

  pub stored_merge : (past : Calls) (st : State) → Shows C in_order past st → AreStored (merge_of past)
  stored_merge past st shows =
      merge_stored (shown_in C st.subs) (shown_since key_cmp text_cmp past) (merge_of past) (stored_shown st.subs)
      (merge_same (shown key_cmp past) (shown_in C st.subs) (shown_since key_cmp text_cmp past) (merge_of past) shows (merge_is past))

  end_kept : (place k : ℕ) → IfSome (end_at C place k) (λ (end : End). HasResult end.outcome)
  end_kept place k = by (moment_at C place) (kept place)
    where
      of_status : (o : Option Status) → IfSome o (λ (status : Status). IfSome status.ended (λ (end : End). HasResult end.outcome)) →
          IfSome (option_and_then (λ (s : Status). s.ended) o) (λ (end : End). HasResult end.outcome)
      of_status None h = tt
      of_status (Some status) h = h

      by : (o : Option Moment) → IfSome o IsKept → IfSome (option_and_then (λ (s : Status). s.ended) (run_of k o)) (λ (end : End). HasResult end.outcome)
      by None h = tt
      by (Some m) h = of_status (m.run k) (h.results k)

-- ---- of ids

live_more : (ls : List Live) (l : Live) → AreLiveShort ls → IsShort l.id → AreLiveShort (ls ++ l ∷ [])
live_more [] l a s = (s, tt)
live_more (x ∷ ls) l a s = (a.0, live_more ls l a.1 s)

live_loaded : (s place : ℕ) (ls : List Live) → AreLiveShort ls → AreLiveShort (loaded s place ls)
live_loaded s place [] a = tt
live_loaded s place (l ∷ ls) a = elim (s == l.sub) as
    (λ b. AreLiveShort (cond b (record l { cursor = Some place } ∷ ls) (l ∷ loaded s place ls))) [ true ↦ a | false ↦ (a.0, live_loaded s place ls a.1) ]

live_advanced : (s count : ℕ) (ls : List Live) → AreLiveShort ls → AreLiveShort (advanced s count ls)
live_advanced s count [] a = tt
live_advanced s count (l ∷ ls) a = elim (s == l.sub) as
    (λ b. AreLiveShort (cond b (record l { cursor = moved count l.cursor } ∷ ls) (l ∷ advanced s count ls)))
    [ true ↦ a | false ↦ (a.0, live_advanced s count ls a.1) ]

live_closed : (s : ℕ) (ls : List Live) → AreLiveShort ls → AreLiveShort (closed s ls)
live_closed s [] a = tt
live_closed s (l ∷ ls) a = elim (s == l.sub) as
    (λ b. AreLiveShort (cond (not b) (l ∷ closed s ls) (closed s ls))) [ true ↦ live_closed s ls a.1 | false ↦ (a.0, live_closed s ls a.1) ]

calls_more : (ms : List Method) (m : Method) → AreCallsShort ms → IsShort m.id → AreCallsShort (ms ++ m ∷ [])
calls_more [] m a s = (s, tt)
calls_more (x ∷ ms) m a s = (a.0, calls_more ms m a.1 s)

calls_turned : (k : ℕ) (p : Phase) (ms : List Method) → AreCallsShort ms → AreCallsShort (turned k p ms)
calls_turned k p [] a = tt
calls_turned zero p (m ∷ ms) a = a
calls_turned (suc k) p (m ∷ ms) a = (a.0, calls_turned k p ms a.1)

calls_fired : (ls : List Live) (ms : List Method) → AreCallsShort ms → AreCallsShort (fire ls ms)
calls_fired ls [] a = tt
calls_fired ls (m ∷ ms) a = (a.0, calls_fired ls ms a.1)

own_short : (app : App) (number : ℕ) (C : List Moment) (st : State) (i : Item) → CanFollow app number C st i → AreShort st → AreShort (own_after st i)
own_short app number C st (item.subscribe s message cursors) f a =
    record { live = live_more st.subs (opening st s message cursors) a.live f.short; calls = a.calls }
own_short app number C st (item.load s place) f a = record { live = live_loaded s place st.subs a.live; calls = a.calls }
own_short app number C st (item.advance s count) f a = record { live = live_advanced s count st.subs a.live; calls = a.calls }
own_short app number C st (item.close s message) f a = record { live = live_closed s st.subs a.live; calls = a.calls }
own_short app number C st (item.call k message seed) f a =
    record { live = a.live; calls = calls_more st.methods (record { id = id_of message; phase = running }) a.calls f.short }
own_short app number C st (item.refused k place) f a = record { live = a.live; calls = calls_turned k refused st.methods a.calls }
own_short app number C st (item.finished k place) f a = record { live = a.live; calls = calls_turned k (finished place) st.methods a.calls }
own_short app number C st i f a = record { live = a.live; calls = a.calls }

pub short_after : (app : App) (number : ℕ) (C : List Moment) (st : State) (i : Item) → CanFollow app number C st i → AreShort st → AreShort (after st i)
short_after app number C st i f a = let own = own_after st i in let b = own_short app number C st i f a in
    record { live = b.live; calls = calls_fired own.subs own.methods b.calls }

short_ids : (s : ℕ) (ls : List Live) → AreLiveShort ls → AreIdsShort (ids_of s ls)
short_ids s [] a = tt
short_ids s (l ∷ ls) a = elim (s == l.sub) as (λ b. AreIdsShort (cond b (l.id ∷ []) (ids_of s ls))) [ true ↦ (a.0, tt) | false ↦ short_ids s ls a.1 ]

short_id : (k : ℕ) (ms : List Method) → AreCallsShort ms → AreIdsShort (id_at k ms)
short_id k [] a = tt
short_id zero (m ∷ ms) a = (a.0, tt)
short_id (suc k) (m ∷ ms) a = short_id k ms a.1

ids-append : (xs ys : List (List ℕ)) → AreIdsShort xs → AreIdsShort ys → AreIdsShort (xs ++ ys)
ids-append [] ys a b = b
ids-append (x ∷ xs) ys a b = (a.0, ids-append xs ys a.1 b)

told_short : (ls : List Live) (id : List ℕ) (p : Phase) → IsShort id → AreIdsShort (told_now ls id p)
told_short ls id (finished place) s = elim (is_open place ls) as (λ b. AreIdsShort (cond b (id ∷ []) [])) [ true ↦ (s, tt) | false ↦ tt ]
told_short ls id p s = tt

all_told_short : (ls : List Live) (ms : List Method) → AreCallsShort ms → AreIdsShort (all_told ls ms)
all_told_short ls [] a = tt
all_told_short ls (m ∷ ms) a = ids-append (told_now ls m.id m.phase) (all_told ls ms) (told_short ls m.id m.phase a.0) (all_told_short ls ms a.1)

-- ---- of an item's own messages

ready_readable : (ids : List (List ℕ)) → AreIdsShort ids → AreReadable (map ready ids)
ready_readable [] a = tt
ready_readable (id ∷ ids) a = ((tt, (a.0, tt)), ready_readable ids a.1)

updated_readable : (ids : List (List ℕ)) → AreIdsShort ids → AreReadable (map updated ids)
updated_readable [] a = tt
updated_readable (id ∷ ids) a = ((tt, (a.0, tt)), updated_readable ids a.1)

result_readable : (o : Outcome) (id : List ℕ) → HasResult o → IsShort id → IsReadable (result_by o id)
result_readable (done None) id h s = (tt, (s, tt))
result_readable (done (Some v)) id h s = (h.0, (s, h.1))
result_readable (failed fault) id h s = (tt, (s, tt))

all_results : (o : Outcome) (ids : List (List ℕ)) → HasResult o → AreIdsShort ids → AreReadable (map (result_by o) ids)
all_results o [] h a = tt
all_results o (id ∷ ids) h a = (result_readable o id h a.0, all_results o ids h a.1)

end_results : (end : Option End) (ids : List (List ℕ)) → IfSome end (λ (e : End). HasResult e.outcome) → AreIdsShort ids → AreReadable (results_by end ids)
end_results None ids h a = tt
end_results (Some end) ids h a = all_results end.outcome ids h a

refused_readable : (fault : Fault) (ids : List (List ℕ)) → AreIdsShort ids → AreReadable (all_refused_with fault ids)
refused_readable fault [] a = tt
refused_readable fault (id ∷ ids) a = ((tt, (a.0, tt)), ((tt, (a.0, tt)), refused_readable fault ids a.1))

own_readable : (app : App) (number : ℕ) (C : List Moment) (st : State) (i : Item) → AreKept C → CanFollow app number C st i → AreShort st →
    AreReadable (own_messages C number st i)
own_readable app number C st item.connect kept f a = ((tt, tt), tt)
own_readable app number C st item.fail kept f a = ((tt, tt), tt)
own_readable app number C st (item.ping id) kept f a = ((tt, tt), tt)
own_readable app number C st (item.bad reason offending) kept f a = ((f.1, f.2), tt)
own_readable app number C st (item.nosub message e) kept f a = ((tt, f.short), tt)
own_readable app number C st (item.close s message) kept f a = ((tt, f.short), tt)
own_readable app number C st (item.unknown message) kept f a = ((tt, (f.short, tt)), ((tt, (f.short, tt)), tt))
own_readable app number C st (item.load s place) kept f a = ready_readable (ids_of s st.subs) (short_ids s st.subs a.live)
own_readable app number C st (item.refused k place) kept f a = refused_readable history_full (id_at k st.methods) (short_id k st.methods a.calls)
own_readable app number C st (item.finished k place) kept f a =
    end_results (end_at C place k) (id_at k st.methods) (end_kept C kept place k) (short_id k st.methods a.calls)
own_readable app number C st i kept f a = tt

-- ---- of a journal

messages_readable : (app : App) (number : ℕ) (C : List Moment) (kept : AreKept C) (past : Calls) (st : State) (i : Item) → CanFollow app number C st i →
    AreShort st → Shows C (in_order C kept) past st →
    AreReadable (messages_of C number past st i)
messages_readable app number C kept past st i f a shows =
    let past2 = call_of C st i ∷ past in
    let own = own_after st i in
    let next = one_more C (in_order C kept) past st i shows in
    AreReadable-append (map about (difference (merge_of past) (merge_of past2))) (words_of C number st i)
    (difference_readable (merge_of past) (merge_of past2) (stored_merge C kept past st shows) (stored_merge C kept past2 (after st i) next))
    (AreReadable-append (own_messages C number st i) (map updated (told_after st i)) (own_readable app number C st i kept f a)
    (updated_readable (told_after st i) (all_told_short own.subs own.methods (own_short app number C st i f a).calls)))

out_from_readable : (app : App) (number : ℕ) (C : List Moment) (kept : AreKept C) (past : Calls) (st : State) (items : List Item) →
    FitsFrom app number C st items → AreShort st → Shows C (in_order C kept) past st →
    AreReadable (out_from C number past st items)
out_from_readable app number C kept past st [] f a shows = tt
out_from_readable app number C kept past st (i ∷ items) f a shows =
    let past2 = call_of C st i ∷ past in
    AreReadable-append (messages_of C number past st i) (out_from C number past2 (after st i) items) (messages_readable app number C kept past st i f.0 a shows)
    (out_from_readable app number C kept past2 (after st i) items f.1 (short_after app number C st i f.0 a) (one_more C (in_order C kept) past st i shows))

pub out_readable : (app : App) (number : ℕ) (C : List Moment) (items : List Item) → AreKept C → Fits app number C items → AreReadable (out C number items)
out_readable app number C items kept f = out_from_readable app number C kept [] started items f (record { live = tt; calls = tt }) (λ r. refl)

-- ---- texts that read

answered : (t : List ℕ) (m : ServerMessage) → server_answer t ≡ Ok m → IsRead t × (message_in t ≡ m)
answered t m e = (e ∙ ap (λ x. Ok x) (sym (ap or_unknown e)), ap or_unknown e)

pub all_read : (ms : List ServerMessage) → AreReadable ms → AreRead (map server_text ms) × (messages_in (map server_text ms) ≡ ms)
all_read [] r = (tt, refl)
all_read (m ∷ ms) r =
    let one = answered (server_text m) m (server_text_back m r.0.0 r.0.1) in
    let rest = all_read ms r.1 in
    ((one.0, rest.0), ap₂ (λ x xs. x ∷ xs) one.1 rest.1)

-- The texts of a journal read as its messages.
pub out_reads : (app : App) (number : ℕ) (C : List Moment) (items : List Item) → AreKept C → Fits app number C items →
    AreRead (out_texts C number items) × (messages_in (out_texts C number items) ≡ out C number items)
out_reads app number C items kept f = all_read (out C number items) (out_readable app number C items kept f)
