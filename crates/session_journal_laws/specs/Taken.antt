-- Whoever takes the messages of a journal has the merge.
use Rattle.std.specs.Prelude.{◌≡◌, ℕ, List, [], ◌∷◌, ◌++◌, map, true, Option, Some, None, refl}
use Rattle.std.proofs.Common.{ap, ap₂, sym, ◌∙◌, append-nil}
use Rattle.std.proofs.lemmas.List.{append_assoc}
use Rattle.std.specs.Ordering.{eq_by_cmp}
use Rattle.map_model.specs.Maps.{at, set}
use Rattle.map_model.specs.Differences.{Step, added, changed, removed, taken, all_taken}
use Rattle.map_model.specs.DifferenceLaws.{diff_taken}
use Rattle.value_model.specs.Val.{Val}
use Rattle.value_model.specs.Order.{text_cmp, compare}
use Rattle.value_model.specs.OrderLaws.{compare_is_eq}
use Rattle.ejson_value.specs.declared.fault.Fault.{Fault}
use Rattle.ejson_value.specs.declared.key.Key.{Key}
use Rattle.ejson_value.specs.Key.{key_cmp, key_order, name_order}
use Rattle.ejson_value.specs.Messages.{said}
use Rattle.ejson_value.specs.Rows.{Rows}
use Rattle.ddp_messages.specs.ServerMessage.{ServerMessage}
use Rattle.program_steps.specs.Runs.{Outcome, done, failed, End}
use Rattle.session_model.specs.Items.{Item}
use Rattle.session_model.specs.Items as item
use Rattle.session_model.specs.Subscriptions.{ids_of}
use Rattle.session_model.specs.Methods.{id_at}
use Rattle.session_model.specs.State.{State, started, after}
use Rattle.session_model.specs.Moments.{Moment, end_at}
use Rattle.session_model.specs.Shown.{Calls, call_of, calls_from, merge_of, merged, difference}
use Rattle.session_model.specs.Data.{data_in, data_of}
use Rattle.ejson_value.specs.Messages.{saying}
use Rattle.session_model.specs.Out.{about, ready, updated, result_by, results_by, history_full, all_refused_with, own_messages, told_after, words_of}
use Rattle.session_model.specs.Out.{messages_of, out_from, out}
use Rattle.session_journal_laws.specs.Shows.{merge_is}

pub data_of-append : (xs ys : List ServerMessage) → data_of (xs ++ ys) ≡ data_of xs ++ data_of ys
data_of-append [] ys = refl
data_of-append (x ∷ xs) ys = ap (λ rest. data_in x ++ rest) (data_of-append xs ys) ∙ sym (append_assoc (data_in x) (data_of xs) (data_of ys))

pub said_of_step : (m : Key × Step (List ℕ) Val) → said (saying m) ≡ m
said_of_step (key, added fields) = refl
said_of_step (key, changed fields cleared) = refl
said_of_step (key, removed) = refl

pub data_of-about : (ms : List (Key × Step (List ℕ) Val)) → data_of (map about ms) ≡ ms
data_of-about [] = refl
data_of-about (m ∷ ms) = ap₂ (λ x xs. x ∷ xs) (said_of_step m) (data_of-about ms)

-- ---- no other message is about documents

data_of-ready : (ids : List (List ℕ)) → data_of (map ready ids) ≡ []
data_of-ready [] = refl
data_of-ready (id ∷ ids) = data_of-ready ids

data_of-updated : (ids : List (List ℕ)) → data_of (map updated ids) ≡ []
data_of-updated [] = refl
data_of-updated (id ∷ ids) = data_of-updated ids

data_in-result : (o : Outcome) (id : List ℕ) → data_in (result_by o id) ≡ []
data_in-result (done value) id = refl
data_in-result (failed fault) id = refl

data_of-results : (end : Option End) (ids : List (List ℕ)) → data_of (results_by end ids) ≡ []
data_of-results None ids = refl
data_of-results (Some end) [] = refl
data_of-results (Some end) (id ∷ ids) = ap₂ (λ xs ys. xs ++ ys) (data_in-result end.outcome id) (data_of-results (Some end) ids)

data_of-refused : (fault : Fault) (ids : List (List ℕ)) → data_of (all_refused_with fault ids) ≡ []
data_of-refused fault [] = refl
data_of-refused fault (id ∷ ids) = data_of-refused fault ids

data_of-own : (C : List Moment) (number : ℕ) (st : State) (i : Item) → data_of (own_messages C number st i) ≡ []
data_of-own C number st (item.load s place) = data_of-ready (ids_of s st.subs)
data_of-own C number st (item.refused k place) = data_of-refused history_full (id_at k st.methods)
data_of-own C number st (item.finished k place) = data_of-results (end_at C place k) (id_at k st.methods)
data_of-own C number st i = refl

data_of-words : (C : List Moment) (number : ℕ) (st : State) (i : Item) → data_of (words_of C number st i) ≡ []
data_of-words C number st i =
    data_of-append (own_messages C number st i) (map updated (told_after st i))
    ∙ ap₂ (λ xs ys. xs ++ ys) (data_of-own C number st i) (data_of-updated (told_after st i))

-- what the messages of an item say of documents is the difference of the merge before and after it
pub data_of-messages : (C : List Moment) (number : ℕ) (past : Calls) (st : State) (i : Item) →
    data_of (messages_of C number past st i) ≡ difference (merge_of past) (merge_of (call_of C st i ∷ past))
data_of-messages C number past st i =
    let ds = difference (merge_of past) (merge_of (call_of C st i ∷ past)) in
    data_of-append (map about ds) (words_of C number st i)
    ∙ (ap (λ rest. data_of (map about ds) ++ rest) (data_of-words C number st i) ∙ (append-nil (data_of (map about ds)) ∙ data_of-about ds))

-- ---- the merge

pub all_taken-append : (rows : Rows) (ms ns : List (Key × Step (List ℕ) Val)) →
    all_taken text_cmp key_cmp rows (ms ++ ns) ≡ all_taken text_cmp key_cmp (all_taken text_cmp key_cmp rows ms) ns
all_taken-append rows [] ns = refl
all_taken-append rows (m ∷ ms) ns = all_taken-append (set key_cmp rows m.0 (taken text_cmp (at key_cmp rows m.0) m.1)) ms ns

exact_values : (v w : Val) → eq_by_cmp compare v w ≡ true → v ≡ w
exact_values v w e = (compare_is_eq v w).0 e

-- a reader that takes an item's data goes from the merge before to the merge after
pub difference_taken : (before later : Calls) → all_taken text_cmp key_cmp (merge_of before) (difference (merge_of before) (merge_of later)) ≡ merge_of later
difference_taken before later =
    let a = merge_is before in
    let b = merge_is later in
    diff_taken key_order name_order (eq_by_cmp compare) exact_values (merge_of before) (merge_of later) a.by_key b.by_key a.by_name b.by_name

pub out_from-taken : (C : List Moment) (number : ℕ) (past : Calls) (st : State) (items : List Item) →
    all_taken text_cmp key_cmp (merge_of past) (data_of (out_from C number past st items)) ≡ merge_of (calls_from C past st items)
out_from-taken C number past st [] = refl
out_from-taken C number past st (i ∷ items) =
    let ms = messages_of C number past st i in
    let past2 = call_of C st i ∷ past in
    let rest = out_from C number past2 (after st i) items in
    ap (all_taken text_cmp key_cmp (merge_of past)) (data_of-append ms rest)
    ∙ (all_taken-append (merge_of past) (data_of ms) (data_of rest)
    ∙ (ap (λ rows. all_taken text_cmp key_cmp rows (data_of rest))
    (ap (all_taken text_cmp key_cmp (merge_of past)) (data_of-messages C number past st i) ∙ difference_taken past past2)
    ∙ out_from-taken C number past2 (after st i) items))

-- a reader that takes the messages of a journal has the merge
pub out-taken : (C : List Moment) (number : ℕ) (items : List Item) → all_taken text_cmp key_cmp [] (data_of (out C number items)) ≡ merged C items
out-taken C number items = out_from-taken C number [] started items
