-- Laws: No `updated` of an id comes before its `result`.
use Rattle.std.specs.Prelude.{◌≡◌, ℕ, ◌+◌, ◌-◌, ◌≤◌, List, [], ◌∷◌, ◌++◌, map, Option, Some, None, refl}
use Rattle.std.proofs.Common.{subst, arith}
use Rattle.map_model.specs.Differences.{Step}
use Rattle.value_model.specs.Val.{Val}
use Rattle.value_model.specs.Size.{is_name}
use Rattle.ejson_value.specs.declared.fault.Fault.{Fault}
use Rattle.ejson_value.specs.declared.key.Key.{Key}
use Rattle.ddp_messages.specs.ServerMessage.{ServerMessage}
use Rattle.program_steps.specs.Runs.{Outcome, done, failed, End}
use Rattle.app_model.specs.App.{App}
use Rattle.session_model.specs.Items.{Item}
use Rattle.session_model.specs.Items as item
use Rattle.session_model.specs.Subscriptions.{ids_of}
use Rattle.session_model.specs.Methods.{id_at}
use Rattle.session_model.specs.State.{State, started, own_after, after}
use Rattle.session_model.specs.Moments.{Moment, end_at}
use Rattle.session_model.specs.Shown.{Calls, call_of, merge_of, difference}
use Rattle.session_model.specs.Out.{about, ready, updated, result_by, results_by, history_full, all_refused_with, own_messages, told_after, words_of}
use Rattle.session_model.specs.Out.{messages_of, out_from, out}
use Rattle.session_model.specs.Fits.{CanFollow, FitsFrom, Fits}
use Rattle.session_model.specs.Counting.{one_if, count, result_in, updated_in, results, updateds, is_armed, number_in}
use Rattle.session_journal_laws.specs.Blocking.{BlocksLast}
use Rattle.session_journal_laws.specs.BlockingLaws.{last_after}
use Rattle.session_journal_laws.specs.CountsLaws.{no_results, no_updateds, fire_armed, own_counts, item_counts, none_blocks}
use Rattle.session_journal_laws.specs.Order.{AreAhead}

ahead-append : (id : List ℕ) (n : ℕ) (xs ys : List ServerMessage) → AreAhead id n xs → AreAhead id (n + results id xs - updateds id xs) ys →
    AreAhead id n (xs ++ ys)
ahead-append id n [] ys a b = let e : n + 0 - 0 ≡ n = omega arith in subst (λ k. AreAhead id k ys) e b
ahead-append id n (m ∷ xs) ys a b =
    let k = n + result_in id m - updated_in id m in
    let e : n + results id (m ∷ xs) - updateds id (m ∷ xs) ≡ k + results id xs - updateds id xs = omega (arith, a.0) in
    (a.0, ahead-append id k xs ys a.1 (subst (λ j. AreAhead id j ys) e b))

-- so many `updated`s are among the first of them
ahead_first : (id : List ℕ) (n : ℕ) (ms rest : List ServerMessage) → AreAhead id n (ms ++ rest) → updateds id ms ≤ n + results id ms
ahead_first id n [] rest a = omega arith
ahead_first id n (m ∷ ms) rest a = omega (arith, a.0, ahead_first id (n + result_in id m - updated_in id m) ms rest a.1)

-- ---- lists of messages

data_ahead : (id : List ℕ) (n : ℕ) (ds : List (Key × Step (List ℕ) Val)) → AreAhead id n (map about ds)
data_ahead id n [] = tt
data_ahead id n (d ∷ ds) = (omega arith, data_ahead id (n + 0 - 0) ds)

ready_ahead : (id : List ℕ) (n : ℕ) (ids : List (List ℕ)) → AreAhead id n (map ready ids)
ready_ahead id n [] = tt
ready_ahead id n (x ∷ ids) = (omega arith, ready_ahead id (n + 0 - 0) ids)

updated_ahead : (id : List ℕ) (n : ℕ) (ids : List (List ℕ)) → count id ids ≤ n → AreAhead id n (map updated ids)
updated_ahead id n [] le = tt
updated_ahead id n (x ∷ ids) le = (omega (arith, le), updated_ahead id (n + 0 - (one_if (is_name id x) + 0)) ids (omega (arith, le)))

no_updated : (id : List ℕ) (o : Outcome) (x : List ℕ) → updated_in id (result_by o x) ≡ 0
no_updated id (done value) x = refl
no_updated id (failed fault) x = refl

result_ahead : (id : List ℕ) (n : ℕ) (o : Outcome) (ids : List (List ℕ)) → AreAhead id n (map (result_by o) ids)
result_ahead id n o [] = tt
result_ahead id n o (x ∷ ids) = (omega (arith, no_updated id o x), result_ahead id (n + result_in id (result_by o x) - updated_in id (result_by o x)) o ids)

end_ahead : (id : List ℕ) (n : ℕ) (end : Option End) (ids : List (List ℕ)) → AreAhead id n (results_by end ids)
end_ahead id n None ids = tt
end_ahead id n (Some end) ids = result_ahead id n end.outcome ids

refused_ahead : (id : List ℕ) (n : ℕ) (fault : Fault) (ids : List (List ℕ)) → AreAhead id n (all_refused_with fault ids)
refused_ahead id n fault [] = tt
refused_ahead id n fault (x ∷ ids) = (omega arith, (omega arith, refused_ahead id (n + one_if (is_name id x) - 0 + 0 - (one_if (is_name id x) + 0)) fault ids))

own_ahead : (number : ℕ) (C : List Moment) (id : List ℕ) (n : ℕ) (st : State) (i : Item) → AreAhead id n (own_messages C number st i)
own_ahead number C id n st item.connect = (omega arith, tt)
own_ahead number C id n st item.fail = (omega arith, tt)
own_ahead number C id n st (item.ping x) = (omega arith, tt)
own_ahead number C id n st (item.bad reason offending) = (omega arith, tt)
own_ahead number C id n st (item.nosub message e) = (omega arith, tt)
own_ahead number C id n st (item.close s message) = (omega arith, tt)
own_ahead number C id n st (item.unknown message) = (omega arith, (omega arith, tt))
own_ahead number C id n st (item.load s place) = ready_ahead id n (ids_of s st.subs)
own_ahead number C id n st (item.refused k place) = refused_ahead id n history_full (id_at k st.methods)
own_ahead number C id n st (item.finished k place) = end_ahead id n (end_at C place k) (id_at k st.methods)
own_ahead number C id n st i = tt

-- ---- of an item, of a journal

item_ahead : (app : App) (number : ℕ) (C : List Moment) (id : List ℕ) (past : Calls) (st : State) (i : Item) → CanFollow app number C st i →
    BlocksLast st → AreAhead id (number_in is_armed id st.methods) (messages_of C number past st i)
item_ahead app number C id past st i f l =
    let n = number_in is_armed id st.methods in
    let ds = difference (merge_of past) (merge_of (call_of C st i ∷ past)) in
    let own = own_messages C number st i in
    let state = own_after st i in
    let k = n + results id (map about ds) - updateds id (map about ds) in
    let c = (own_counts app number C id st i f l).1 in
    let fired = fire_armed id state.subs state.methods in
    ahead-append id n (map about ds) (words_of C number st i) (data_ahead id n ds)
    (ahead-append id k own (map updated (told_after st i)) (own_ahead number C id k st i)
    (updated_ahead id (k + results id own - updateds id own) (told_after st i) (omega (arith, c, fired, no_results id ds, no_updateds id ds))))

out_from_ahead : (app : App) (number : ℕ) (C : List Moment) (id : List ℕ) (past : Calls) (st : State) (items : List Item) →
    FitsFrom app number C st items → BlocksLast st →
    AreAhead id (number_in is_armed id st.methods) (out_from C number past st items)
out_from_ahead app number C id past st [] f l = tt
out_from_ahead app number C id past st (i ∷ items) f l =
    let past2 = call_of C st i ∷ past in
    let n = number_in is_armed id st.methods in
    let ms = messages_of C number past st i in
    let rest = out_from C number past2 (after st i) items in
    let e : number_in is_armed id (after st i).methods ≡ n + results id ms - updateds id ms = omega (arith, (item_counts app number C id past st i f.0 l).1) in
    ahead-append id n ms rest (item_ahead app number C id past st i f.0 l)
    (subst (λ k. AreAhead id k rest) e (out_from_ahead app number C id past2 (after st i) items f.1 (last_after app number C st i f.0 l)))

-- among the first messages of a journal there are no more `updated`s of an id than `result`s
pub results_come_first : (app : App) (number : ℕ) (C : List Moment) (items : List Item) → Fits app number C items →
    (id : List ℕ) (ms rest : List ServerMessage) → out C number items ≡ ms ++ rest → updateds id ms ≤ results id ms
results_come_first app number C items f id ms rest e =
    let a = out_from_ahead app number C id [] started items f none_blocks in omega (arith, ahead_first id 0 ms rest (subst (AreAhead id 0) e a))
