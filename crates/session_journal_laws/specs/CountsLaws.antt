-- Laws: Each method that is handled has one result, and an `updated` once its fence opened.
use Rattle.std.specs.Prelude.{◌≡◌, ℕ, zero, suc, ◌+◌, List, [], ◌∷◌, ◌++◌, map, Bool, true, false, cond, Some, if◌then◌else◌, refl}
use Rattle.std.proofs.Common.{ap, ◌∙◌, arith}
use Rattle.map_model.specs.Differences.{Step}
use Rattle.value_model.specs.Val.{Val}
use Rattle.value_model.specs.Size.{is_name}
use Rattle.ejson_value.specs.declared.fault.Fault.{Fault}
use Rattle.ejson_value.specs.declared.key.Key.{Key}
use Rattle.ddp_messages.specs.ServerMessage.{ServerMessage}
use Rattle.program_steps.specs.Runs.{Outcome, done, failed}
use Rattle.app_model.specs.App.{App}
use Rattle.session_model.specs.Items.{Item, id_of}
use Rattle.session_model.specs.Items as item
use Rattle.session_model.specs.Subscriptions.{Live, ids_of, is_open}
use Rattle.session_model.specs.Methods.{Phase, running, refused, finished, told, Method, phase_at, id_at, turned, fired, fire, told_now, all_told}
use Rattle.session_model.specs.State.{State, started, own_after, after, state_from, state_of}
use Rattle.session_model.specs.Moments.{Moment, end_at}
use Rattle.session_model.specs.Shown.{Calls, call_of, merge_of, difference}
use Rattle.session_model.specs.Out.{about, ready, updated, result_by, results_by, history_full, refused_with, all_refused_with, own_messages}
use Rattle.session_model.specs.Out.{told_after, words_of, messages_of, out_from, out}
use Rattle.session_model.specs.Fits.{CanFollow, FitsFrom, Fits}
use Rattle.session_model.specs.Counting.{one_if, count, result_in, updated_in, total, results, updateds, method_by, methods_handled, is_running}
use Rattle.session_model.specs.Counting.{is_armed, in_phase, number_in}
use Rattle.session_journal_laws.specs.Blocking.{BlocksLast}
use Rattle.session_journal_laws.specs.BlockingLaws.{last_after, refused_runs}
use Rattle.session_journal_laws.specs.Counts.{Counts, OwnCounts}

pub total-append : (f : ServerMessage → ℕ) (xs ys : List ServerMessage) → total f (xs ++ ys) ≡ total f xs + total f ys
total-append f [] ys = omega arith
total-append f (x ∷ xs) ys = omega (arith, total-append f xs ys)

number_in-append : (q : Phase → Bool) (id : List ℕ) (ms : List Method) (m : Method) → number_in q id (ms ++ m ∷ []) ≡ number_in q id ms + in_phase q id m
number_in-append q id [] m = omega arith
number_in-append q id (x ∷ ms) m = omega (arith, number_in-append q id ms m)

-- ---- of lists of messages

pub no_results : (id : List ℕ) (ds : List (Key × Step (List ℕ) Val)) → results id (map about ds) ≡ 0
no_results id [] = refl
no_results id (d ∷ ds) = omega (arith, no_results id ds)

pub no_updateds : (id : List ℕ) (ds : List (Key × Step (List ℕ) Val)) → updateds id (map about ds) ≡ 0
no_updateds id [] = refl
no_updateds id (d ∷ ds) = omega (arith, no_updateds id ds)

ready_results : (id : List ℕ) (ids : List (List ℕ)) → results id (map ready ids) ≡ 0
ready_results id [] = refl
ready_results id (x ∷ ids) = omega (arith, ready_results id ids)

ready_updateds : (id : List ℕ) (ids : List (List ℕ)) → updateds id (map ready ids) ≡ 0
ready_updateds id [] = refl
ready_updateds id (x ∷ ids) = omega (arith, ready_updateds id ids)

pub updated_results : (id : List ℕ) (ids : List (List ℕ)) → results id (map updated ids) ≡ 0
updated_results id [] = refl
updated_results id (x ∷ ids) = omega (arith, updated_results id ids)

updated_updateds : (id : List ℕ) (ids : List (List ℕ)) → updateds id (map updated ids) ≡ count id ids
updated_updateds id [] = refl
updated_updateds id (x ∷ ids) = omega (arith, updated_updateds id ids)

result_results : (id : List ℕ) (o : Outcome) (x : List ℕ) → result_in id (result_by o x) ≡ one_if (is_name id x)
result_results id (done value) x = refl
result_results id (failed fault) x = refl

result_updateds : (id : List ℕ) (o : Outcome) (x : List ℕ) → updated_in id (result_by o x) ≡ 0
result_updateds id (done value) x = refl
result_updateds id (failed fault) x = refl

end_results : (id : List ℕ) (o : Outcome) (ids : List (List ℕ)) → results id (map (result_by o) ids) ≡ count id ids
end_results id o [] = refl
end_results id o (x ∷ ids) = omega (arith, result_results id o x, end_results id o ids)

end_updateds : (id : List ℕ) (o : Outcome) (ids : List (List ℕ)) → updateds id (map (result_by o) ids) ≡ 0
end_updateds id o [] = refl
end_updateds id o (x ∷ ids) = omega (arith, result_updateds id o x, end_updateds id o ids)

refused_results : (id : List ℕ) (fault : Fault) (ids : List (List ℕ)) → results id (all_refused_with fault ids) ≡ count id ids
refused_results id fault [] = refl
refused_results id fault (x ∷ ids) =
    omega (arith, total-append (result_in id) (refused_with fault x) (all_refused_with fault ids), refused_results id fault ids)

refused_updateds : (id : List ℕ) (fault : Fault) (ids : List (List ℕ)) → updateds id (all_refused_with fault ids) ≡ count id ids
refused_updateds id fault [] = refl
refused_updateds id fault (x ∷ ids) =
    omega (arith, total-append (updated_in id) (refused_with fault x) (all_refused_with fault ids), refused_updateds id fault ids)

-- ---- a running call turns

turned_running : (id : List ℕ) (k : ℕ) (p : Phase) (ms : List Method) → phase_at k ms ≡ Some running → is_running p ≡ false →
    number_in is_running id (turned k p ms) + count id (id_at k ms) ≡ number_in is_running id ms
turned_running id k p [] e still = cc e
turned_running id zero p (m ∷ ms) e still =
    let was : m.phase ≡ running = cc e in
    omega (arith, ap (λ b. if b then one_if (is_name id m.id) else 0) still, ap (λ q. if is_running q then one_if (is_name id m.id) else 0) was)
turned_running id (suc k) p (m ∷ ms) e still = omega (arith, turned_running id k p ms e still)

turned_armed : (id : List ℕ) (k place : ℕ) (ms : List Method) → phase_at k ms ≡ Some running →
    number_in is_armed id (turned k (finished place) ms) ≡ number_in is_armed id ms + count id (id_at k ms)
turned_armed id k place [] e = cc e
turned_armed id zero place (m ∷ ms) e =
    let was : m.phase ≡ running = cc e in omega (arith, ap (λ q. if is_armed q then one_if (is_name id m.id) else 0) was)
turned_armed id (suc k) place (m ∷ ms) e = omega (arith, turned_armed id k place ms e)

turned_refused : (id : List ℕ) (k : ℕ) (ms : List Method) → phase_at k ms ≡ Some running →
    number_in is_armed id (turned k refused ms) ≡ number_in is_armed id ms
turned_refused id k [] e = cc e
turned_refused id zero (m ∷ ms) e =
    let was : m.phase ≡ running = cc e in omega (arith, ap (λ q. if is_armed q then one_if (is_name id m.id) else 0) was)
turned_refused id (suc k) (m ∷ ms) e = omega (arith, turned_refused id k ms e)

-- ---- fences open

fire_one : (id : List ℕ) (ls : List Live) (x : List ℕ) (p : Phase) →
    ((if is_armed (fired ls p) then one_if (is_name id x) else 0) + count id (told_now ls x p) ≡ (if is_armed p then one_if (is_name id x) else 0))
    × ((if is_running (fired ls p) then one_if (is_name id x) else 0) ≡ (if is_running p then one_if (is_name id x) else 0))
fire_one id ls x (finished place) =
    elim (is_open place ls) as (λ b.
    ((if is_armed (cond b (told place) (finished place)) then one_if (is_name id x) else 0) + count id (cond b (x ∷ []) []) ≡ one_if (is_name id x))
    × ((if is_running (cond b (told place) (finished place)) then one_if (is_name id x) else 0) ≡ 0)) [
      | true ↦ (omega arith, refl)
      | false ↦
          (omega arith, refl)
    ]
fire_one id ls x p = (omega arith, refl)

pub count-append : (id : List ℕ) (xs ys : List (List ℕ)) → count id (xs ++ ys) ≡ count id xs + count id ys
count-append id [] ys = omega arith
count-append id (x ∷ xs) ys = omega (arith, count-append id xs ys)

pub fire_armed : (id : List ℕ) (ls : List Live) (ms : List Method) → number_in is_armed id (fire ls ms) + count id (all_told ls ms) ≡ number_in is_armed id ms
fire_armed id ls [] = refl
fire_armed id ls (m ∷ ms) = omega (arith, (fire_one id ls m.id m.phase).0, fire_armed id ls ms, count-append id (told_now ls m.id m.phase) (all_told ls ms))

fire_running : (id : List ℕ) (ls : List Live) (ms : List Method) → number_in is_running id (fire ls ms) ≡ number_in is_running id ms
fire_running id ls [] = refl
fire_running id ls (m ∷ ms) = omega (arith, (fire_one id ls m.id m.phase).1, fire_running id ls ms)

-- ---- one item: what is handled runs or has its result; what has its result is armed or has its `updated`

pub own_counts : (app : App) (number : ℕ) (C : List Moment) (id : List ℕ) (st : State) (i : Item) → CanFollow app number C st i → BlocksLast st →
    OwnCounts C number id st i
own_counts app number C id st (item.call k message seed) f l =
    let m : Method = record { id = id_of message; phase = running } in
    (omega (arith, number_in-append is_running id st.methods m), omega (arith, number_in-append is_armed id st.methods m))
own_counts app number C id st (item.unknown message) f l = (omega arith, omega arith)
own_counts app number C id st (item.load s place) f l =
    let ids = ids_of s st.subs in (omega (arith, ready_results id ids), omega (arith, ready_results id ids, ready_updateds id ids))
own_counts app number C id st (item.refused k place) f l =
    let ids = id_at k st.methods in
    let runs = refused_runs C st k place f l in (
      omega (arith, refused_results id history_full ids, turned_running id k refused st.methods runs refl),
      omega (arith, refused_results id history_full ids, refused_updateds id history_full ids, turned_refused id k st.methods runs),
    )
own_counts app number C id st (item.finished k place) f l =
    let ids = id_at k st.methods in
    let end = f.1.end in
    let rs : results id (results_by (end_at C place k) ids) ≡ count id ids = ap (λ o. results id (results_by o ids)) f.1.is ∙ end_results id end.outcome ids in
    let us : updateds id (results_by (end_at C place k) ids) ≡ 0 = ap (λ o. updateds id (results_by o ids)) f.1.is ∙ end_updateds id end.outcome ids in (
      omega (arith, rs, turned_running id k (finished place) st.methods f.0 refl),
      omega (arith, rs, us, turned_armed id k place st.methods f.0),
    )
own_counts app number C id st i f l = (omega arith, omega arith)

pub item_counts : (app : App) (number : ℕ) (C : List Moment) (id : List ℕ) (past : Calls) (st : State) (i : Item) → CanFollow app number C st i →
    BlocksLast st →
    Counts id (method_by id i) st (messages_of C number past st i) (after st i)
item_counts app number C id past st i f l =
    let own = own_after st i in
    let c = own_counts app number C id st i f l in
    let ts = told_after st i in
    let ds = difference (merge_of past) (merge_of (call_of C st i ∷ past)) in
    let rd = total-append (result_in id) (map about ds) (words_of C number st i) in
    let ud = total-append (updated_in id) (map about ds) (words_of C number st i) in
    let rs = total-append (result_in id) (own_messages C number st i) (map updated ts) in
    let us = total-append (updated_in id) (own_messages C number st i) (map updated ts) in (
      omega (arith, c.0, rd, rs, no_results id ds, updated_results id ts, fire_running id own.subs own.methods),
      omega (
        arith,
        c.1,
        rd,
        ud,
        rs,
        us,
        no_results id ds,
        no_updateds id ds,
        updated_results id ts,
        updated_updateds id ts,
        fire_armed id own.subs own.methods,
      ),
    )

pub items_count : (app : App) (number : ℕ) (C : List Moment) (id : List ℕ) (past : Calls) (st : State) (items : List Item) →
    FitsFrom app number C st items → BlocksLast st →
    Counts id (methods_handled id items) st (out_from C number past st items) (state_from st items)
items_count app number C id past st [] f l = (omega arith, omega arith)
items_count app number C id past st (i ∷ items) f l =
    let past2 = call_of C st i ∷ past in
    let one = item_counts app number C id past st i f.0 l in
    let rest = items_count app number C id past2 (after st i) items f.1 (last_after app number C st i f.0 l) in
    let rs = total-append (result_in id) (messages_of C number past st i) (out_from C number past2 (after st i) items) in
    let us = total-append (updated_in id) (messages_of C number past st i) (out_from C number past2 (after st i) items) in
    (omega (arith, one.0, rest.0, rs), omega (arith, one.1, rest.1, rs, us))

pub none_blocks : BlocksLast started
none_blocks k e = cc e

-- each method that was handled runs still or has its `result`, and each `result` waits for its fence or has its `updated`
pub methods_are_answered : (app : App) (number : ℕ) (C : List Moment) (items : List Item) → Fits app number C items → (id : List ℕ) →
    (methods_handled id items ≡ results id (out C number items) + number_in is_running id (state_of items).methods)
    × (results id (out C number items) ≡ updateds id (out C number items) + number_in is_armed id (state_of items).methods)
methods_are_answered app number C items f id =
    let c = items_count app number C id [] started items f none_blocks in (omega (arith, c.0), omega (arith, c.1))
