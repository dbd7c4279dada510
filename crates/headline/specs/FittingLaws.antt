-- Laws: The messages of a session fit its client: `connected` or `failed` comes first and once, and each message about a document fits the documents
-- that those before it lead to.
use Rattle.std.specs.Prelude.{◌≡◌, ℕ, ◌==◌, List, [], ◌∷◌, ◌++◌, map, Bool, true, false, cond, Option, Some, None, IfSome, is_some, codes, refl}
use Rattle.std.specs.Ordering.{eq_by_cmp}
use Rattle.std.proofs.Common.{ap, ap₂, sym, subst, ◌∙◌}
use Rattle.std.proofs.lemmas.Map.Keys.{sorted_tail}
use Rattle.map_model.specs.Maps.{at, set, IsSorted}
use Rattle.map_model.specs.MapLaws.{sorted-nil, sorted-set, same_maps, at-set, at-tail, eq_by_cmp-self}
use Rattle.map_model.specs.Differences.{Step, between, changed_unless_same, new_fields, cleared, taken, all_taken}
use Rattle.map_model.specs.DifferenceLaws.{diff_is, at-diff}
use Rattle.merge_model.specs.Publishing.{Call, apply, shown}
use Rattle.value_model.specs.Val.{Val, Entries}
use Rattle.value_model.specs.Order.{text_cmp, compare}
use Rattle.view_model.specs.Views.{refusal}
use Rattle.ejson_value.specs.declared.fault.Fault.{Fault}
use Rattle.ejson_value.specs.declared.key.Key.{Key}
use Rattle.ejson_value.specs.Key.{key_cmp, key_order}
use Rattle.ejson_value.specs.Rows.{Rows}
use Rattle.ddp_messages.specs.ServerMessage.{ServerMessage}
use Rattle.ddp_messages.specs.ServerMessage as server
use Rattle.program_steps.specs.Runs.{Outcome, done, failed, End}
use Rattle.app_model.specs.App.{App}
use Rattle.client_model.specs.Taking.{session_in}
use Rattle.world_invariant_laws.specs.session_model.Items.{Item, id_of}
use Rattle.world_invariant_laws.specs.session_model.Items as item
use Rattle.world_invariant_laws.specs.session_model.Subscriptions.{ids_of}
use Rattle.world_invariant_laws.specs.session_model.Methods.{id_at}
use Rattle.world_invariant_laws.specs.session_model.State.{State, after}
use Rattle.world_invariant_laws.specs.session_model.Moments.{Moment, moment_at, end_at}
use Rattle.world_invariant_laws.specs.session_model.Shown.{Calls, call_of, merge_of, difference}
use Rattle.world_invariant_laws.specs.session_model.Data.{data_in, data_of}
use Rattle.world_invariant_laws.specs.session_model.Out.{session_name, about, ready, updated, result_by, results_by, history_full, refused_with}
use Rattle.world_invariant_laws.specs.session_model.Out.{all_refused_with, own_messages, told_after, words_of, messages_of, out_from, out}
use Rattle.world_invariant_laws.specs.session_model.Fits.{IsRefusedAt, CanFollow, FitsFrom, Fits}
use Rattle.world_invariant_laws.specs.session_journal_laws.Shows.{merge_is}
use Rattle.world_invariant_laws.specs.session_journal_laws.Taken.{said_of_step, data_of-about, all_taken-append, difference_taken}
use Rattle.headline.specs.Fitting.{Accepts, AllFit, AreIdle, AreQuiet, FitAt, IsPlain, IsQuiet, early, late_by, refusal_by, rows_after, rows_in, session_after}

-- ---- messages about documents

change_fits : (a fields : Entries) (names : List (List ℕ)) →
    IfSome (changed_unless_same text_cmp (eq_by_cmp compare) fields names) (λ s. refusal (Some a) s ≡ None)
change_fits a [] [] = tt
change_fits a (e ∷ fields) names = refl
change_fits a [] (n ∷ names) = refl

between_fits : (x y : Option Entries) → IfSome (between text_cmp (eq_by_cmp compare) x y) (λ s. refusal x s ≡ None)
between_fits None None = tt
between_fits None (Some b) = refl
between_fits (Some a) None = refl
between_fits (Some a) (Some b) = change_fits a (new_fields text_cmp (eq_by_cmp compare) a b) (cleared text_cmp (eq_by_cmp compare) a b)

sorted_fit : (rows : Rows) (ms : List (Key × Step (List ℕ) Val)) → IsSorted key_cmp rows → IsSorted key_cmp ms → ((q : Key) → FitAt rows ms q) → AllFit rows ms
sorted_fit rows [] s t all = tt
sorted_fit rows (m ∷ ms) s t all =
    let after = taken text_cmp (at key_cmp rows m.0) m.1 in
    let same : eq_by_cmp key_cmp m.0 m.0 ≡ true = eq_by_cmp-self key_order m.0 in (
      subst (λ b. IfSome (cond b (Some m.1) (at key_cmp ms m.0)) (λ s. refusal (at key_cmp rows m.0) s ≡ None)) same (all m.0),
      sorted_fit (set key_cmp rows m.0 after) ms (sorted-set key_order rows m.0 after s) (sorted_tail key_cmp _ _ t)
          (λ q. by q after (eq_by_cmp key_cmp q m.0) refl),
    )
  where
    by : (q : Key) (after : Option Entries) (b : Bool) → eq_by_cmp key_cmp q m.0 ≡ b → FitAt (set key_cmp rows m.0 after) ms q
    by q after true e = subst (λ o. IfSome o (λ s. refusal (at key_cmp (set key_cmp rows m.0 after) q) s ≡ None)) (sym (at-tail key_order m ms q t e)) tt
    by q after false e =
        subst (λ x. IfSome (at key_cmp ms q) (λ s. refusal x s ≡ None))
        (sym (at-set key_order rows m.0 after q s ∙ ap (λ b. cond b after (at key_cmp rows q)) e))
        (subst (λ b. IfSome (cond b (Some m.1) (at key_cmp ms q)) (λ s. refusal (at key_cmp rows q) s ≡ None)) e (all q))

difference_fits : (past later : Calls) → AllFit (merge_of past) (difference (merge_of past) (merge_of later))
difference_fits past later =
    let a = merge_of past in
    let b = merge_of later in
    sorted_fit a (difference a b) (merge_is past).by_key (diff_is key_order text_cmp (eq_by_cmp compare) a b (merge_is later).by_key).by_key
    (λ q. subst (λ o. IfSome o (λ s. refusal (at key_cmp a q) s ≡ None)) (sym (at-diff key_order text_cmp (eq_by_cmp compare) a b q))
    (between_fits (at key_cmp a q) (at key_cmp b q)))

-- ---- all messages

Accepts-append : (session : Option (List ℕ)) (rows : Rows) (xs ys : List ServerMessage) → Accepts session rows xs →
    Accepts (session_after session xs) (rows_after rows xs) ys → Accepts session rows (xs ++ ys)
Accepts-append session rows [] ys a b = b
Accepts-append session rows (x ∷ xs) ys a b = (a.0, Accepts-append (session_in session x) (rows_in rows x) xs ys a.1 b)

-- the next message is none that is refused
pub accepts_next : (session : Option (List ℕ)) (rows : Rows) (xs : List ServerMessage) (m : ServerMessage) (ys : List ServerMessage) →
    Accepts session rows (xs ++ m ∷ ys) →
    (refusal_by (session_after session xs) (rows_after rows xs) m ≡ None) × IsPlain m
accepts_next session rows [] m ys a = a.0
accepts_next session rows (x ∷ xs) m ys a = accepts_next (session_in session x) (rows_in rows x) xs m ys a.1

pub rows_told : (rows : Rows) (ms : List ServerMessage) → rows_after rows ms ≡ all_taken text_cmp key_cmp rows (data_of ms)
rows_told rows [] = refl
rows_told rows (m ∷ ms) = rows_told (rows_in rows m) ms ∙ sym (all_taken-append rows (data_in m) (data_of ms))

-- ---- in a session that is connected

accepts_data : (name : List ℕ) (rows : Rows) (ds : List (Key × Step (List ℕ) Val)) → AllFit rows ds → Accepts (Some name) rows (map about ds)
accepts_data name rows [] f = tt
accepts_data name rows (d ∷ ds) f = (
  (ap (λ m. refusal (at key_cmp rows m.0) m.1) (said_of_step d) ∙ f.0, tt),
  subst (λ r. Accepts (Some name) r (map about ds)) (sym (ap (λ m. set key_cmp rows m.0 (taken text_cmp (at key_cmp rows m.0) m.1)) (said_of_step d)))
      (accepts_data name (set key_cmp rows d.0 (taken text_cmp (at key_cmp rows d.0) d.1)) ds f.1),
)

data_session : (session : Option (List ℕ)) (ds : List (Key × Step (List ℕ) Val)) → session_after session (map about ds) ≡ session
data_session session [] = refl
data_session session (d ∷ ds) = data_session session ds

quiet_more : (xs ys : List ServerMessage) → AreQuiet xs → AreQuiet ys → AreQuiet (xs ++ ys)
quiet_more [] ys p q = q
quiet_more (x ∷ xs) ys p q = (p.0, quiet_more xs ys p.1 q)

quiet_one : (name : List ℕ) (rows : Rows) (m : ServerMessage) → IsQuiet m →
    ((late_by rows m ≡ None) × IsPlain m) × ((session_in (Some name) m ≡ Some name) × (rows_in rows m ≡ rows))
quiet_one name rows (server.connected session) q = absurd q
quiet_one name rows (server.failed version) q = absurd q
quiet_one name rows (server.about m) q = absurd q
quiet_one name rows (server.ping id) q = absurd q
quiet_one name rows (server.updated ids) q = ((refl, q), (refl, refl))
quiet_one name rows m q = ((refl, tt), (refl, refl))

accepts_quiet : (name : List ℕ) (rows : Rows) (ms : List ServerMessage) → AreQuiet ms →
    Accepts (Some name) rows ms × ((session_after (Some name) ms ≡ Some name) × (rows_after rows ms ≡ rows))
accepts_quiet name rows [] q = (tt, (refl, refl))
accepts_quiet name rows (m ∷ ms) q =
    let one = quiet_one name rows m q.0 in
    let rest = accepts_quiet name rows ms q.1 in (
      (one.0, subst (λ (r : Rows). Accepts (session_in (Some name) m) r ms) (sym one.1.1) (subst (λ s. Accepts s rows ms) (sym one.1.0) rest.0)),
      (ap (λ s. session_after s ms) one.1.0 ∙ rest.1.0, ap (λ r. rows_after r ms) one.1.1 ∙ rest.1.1),
    )

ready_quiet : (ids : List (List ℕ)) → AreQuiet (map ready ids)
ready_quiet [] = tt
ready_quiet (id ∷ ids) = (tt, ready_quiet ids)

updated_quiet : (ids : List (List ℕ)) → AreQuiet (map updated ids)
updated_quiet [] = tt
updated_quiet (id ∷ ids) = ((id, refl), updated_quiet ids)

result_quiet : (o : Outcome) (id : List ℕ) → IsQuiet (result_by o id)
result_quiet (done value) id = tt
result_quiet (failed fault) id = tt

results_quiet : (o : Outcome) (ids : List (List ℕ)) → AreQuiet (map (result_by o) ids)
results_quiet o [] = tt
results_quiet o (id ∷ ids) = (result_quiet o id, results_quiet o ids)

ends_quiet : (o : Option End) (ids : List (List ℕ)) → AreQuiet (results_by o ids)
ends_quiet None ids = tt
ends_quiet (Some end) ids = results_quiet end.outcome ids

refused_quiet : (fault : Fault) (ids : List (List ℕ)) → AreQuiet (all_refused_with fault ids)
refused_quiet fault [] = tt
refused_quiet fault (id ∷ ids) = quiet_more (refused_with fault id) (all_refused_with fault ids) (tt, ((id, refl), tt)) (refused_quiet fault ids)

own_quiet : (app : App) (number : ℕ) (C : List Moment) (st : State) (i : Item) → CanFollow app number C st i → st.connected ≡ true →
    AreQuiet (own_messages C number st i)
own_quiet app number C st item.connect f c = let differ : true ≡ false = sym c ∙ f.0 in absurd (cc differ)
own_quiet app number C st item.fail f c = let differ : true ≡ false = sym c ∙ f.0 in absurd (cc differ)
own_quiet app number C st (item.ping id) f c = (tt, tt)
own_quiet app number C st (item.bad reason offending) f c = (tt, tt)
own_quiet app number C st (item.nosub message fault) f c = (tt, tt)
own_quiet app number C st (item.load s place) f c = ready_quiet (ids_of s st.subs)
own_quiet app number C st (item.close s message) f c = (tt, tt)
own_quiet app number C st (item.unknown message) f c = (tt, ((id_of message, refl), tt))
own_quiet app number C st (item.refused k place) f c = refused_quiet history_full (id_at k st.methods)
own_quiet app number C st (item.finished k place) f c = ends_quiet (end_at C place k) (id_at k st.methods)
own_quiet app number C st i f c = tt

stays_connected : (st : State) (i : Item) → st.connected ≡ true → (after st i).connected ≡ true
stays_connected st item.connect c = refl
stays_connected st i c = c

module _ (app : App) (number : ℕ) (C : List Moment) (name : List ℕ) where
  accepts_from : (past : Calls) (st : State) (items : List Item) → FitsFrom app number C st items → st.connected ≡ true →
      Accepts (Some name) (merge_of past) (out_from C number past st items)
  accepts_from past st [] f c = tt
  accepts_from past st (i ∷ items) f c =
      let past2 = call_of C st i ∷ past in
      let ds = difference (merge_of past) (merge_of past2) in
      let words = words_of C number st i in
      let ms = messages_of C number past st i in
      let rest = out_from C number past2 (after st i) items in
      let mid = rows_after (merge_of past) (map about ds) in
      let quiet = accepts_quiet name mid words (quiet_more (own_messages C number st i) (map updated (told_after st i))
      (own_quiet app number C st i f.0 c) (updated_quiet (told_after st i))) in
      let session : session_after (Some name) (map about ds) ≡ Some name = data_session (Some name) ds in
      let rows : mid ≡ merge_of past2 = rows_told (merge_of past) (map about ds)
      ∙ (ap (all_taken text_cmp key_cmp (merge_of past)) (data_of-about ds) ∙ difference_taken past past2) in
      let one : Accepts (Some name) (merge_of past) ms =
      Accepts-append (Some name) (merge_of past) (map about ds) words (accepts_data name (merge_of past) ds (difference_fits past past2))
      (subst (λ s. Accepts s mid words) (sym session) quiet.0) in
      Accepts-append (Some name) (merge_of past) ms rest one
      (subst (λ s. Accepts s (rows_after (merge_of past) ms) rest)
      (sym (after_session (map about ds) words (Some name) ∙ (ap (λ s. session_after s words) session ∙ quiet.1.0)))
      (subst (λ (r : Rows). Accepts (Some name) r rest) (sym (after_rows (map about ds) words (merge_of past) ∙ (quiet.1.1 ∙ rows)))
      (accepts_from past2 (after st i) items f.1 (stays_connected st i c))))
    where
      after_session : (xs ys : List ServerMessage) (s : Option (List ℕ)) → session_after s (xs ++ ys) ≡ session_after (session_after s xs) ys
      after_session [] ys s = refl
      after_session (x ∷ xs) ys s = after_session xs ys (session_in s x)

      after_rows : (xs ys : List ServerMessage) (r : Rows) → rows_after r (xs ++ ys) ≡ rows_after (rows_after r xs) ys
      after_rows [] ys r = refl
      after_rows (x ∷ xs) ys r = after_rows xs ys (rows_in r x)

-- ---- before

idle_shown : (past : Calls) (r : ℕ) → AreIdle past → shown key_cmp past r ≡ []
idle_shown [] r p = refl
idle_shown (call ∷ past) r p =
    let rest = idle_shown past r p.1 in
    ap (λ (c : Call Key Entries). shown key_cmp (c ∷ past) r) p.0
    ∙ elim (r == 0) as (λ b. cond b (shown key_cmp past r) (shown key_cmp past r) ≡ []) [ true ↦ rest | false ↦ rest ]

idle_merge : (past : Calls) → AreIdle past → merge_of past ≡ []
idle_merge past p = same_maps key_order (merge_of past) [] (merge_is past).by_key (sorted-nil key_cmp) (λ k. none k (at key_cmp (merge_of past) k) refl)
  where
    none : (k : Key) (o : Option Entries) → at key_cmp (merge_of past) k ≡ o → o ≡ None
    none k None e = refl
    none k (Some doc) e =
        let w = ((merge_is past).keys k).0 (ap is_some e) in
        let differ : false ≡ true = sym (ap (λ (rows : Rows). is_some (at key_cmp rows k)) (idle_shown past w.0 p)) ∙ w.1 in absurd (cc differ)

module _ (app : App) (number : ℕ) (C : List Moment) where
  -- an item that leaves nothing to show has its own messages alone
  alone : (past : Calls) (was : Bool) (i : Item) (words : List ServerMessage) → AreIdle past → call_of C (early was) i ≡ apply 0 [] →
      words_of C number (early was) i ≡ words → messages_of C number past (early was) i ≡ words
  alone past was i words idle call own =
      let before = idle_merge past idle in
      let later = idle_merge (call_of C (early was) i ∷ past) (call, idle) in
      ap (λ (ds : List (Key × Step (List ℕ) Val)). map about ds ++ words_of C number (early was) i) (ap₂ difference before later) ∙ own

  accepts_early : (past : Calls) (was : Bool) (items : List Item) → AreIdle past → FitsFrom app number C (early was) items →
      Accepts None (merge_of past) (out_from C number past (early was) items)
  accepts_early past was [] idle f = tt
  accepts_early past was (item.connect ∷ items) idle f =
      let i = item.connect in
      let past2 = call_of C (early was) i ∷ past in
      let rest = out_from C number past2 (after (early was) i) items in
      let name = session_name number in
      let same : merge_of past2 ≡ merge_of past = idle_merge past2 (refl, idle) ∙ sym (idle_merge past idle) in
      subst (λ (ms : List ServerMessage). Accepts None (merge_of past) (ms ++ rest)) (sym (alone past was i (server.connected name ∷ []) idle refl refl))
      ((refl, tt), subst (λ (r : Rows). Accepts (Some name) r rest) same (accepts_from app number C name past2 (after (early was) i) items f.1 refl))
  accepts_early past was (item.fail ∷ items) idle f =
      let i = item.fail in
      let past2 = call_of C (early was) i ∷ past in
      let rest = out_from C number past2 (after (early was) i) items in
      let same : merge_of past2 ≡ merge_of past = idle_merge past2 (refl, idle) ∙ sym (idle_merge past idle) in
      subst (λ (ms : List ServerMessage). Accepts None (merge_of past) (ms ++ rest)) (sym (alone past was i (server.failed (codes "1") ∷ []) idle refl refl))
      ((refl, tt), subst (λ (r : Rows). Accepts None r rest) same (accepts_early past2 true items (refl, idle) f.1))
  accepts_early past was (item.bad reason offending ∷ items) idle f =
      let i = item.bad reason offending in
      let past2 = call_of C (early was) i ∷ past in
      let rest = out_from C number past2 (after (early was) i) items in
      let same : merge_of past2 ≡ merge_of past = idle_merge past2 (refl, idle) ∙ sym (idle_merge past idle) in
      subst (λ (ms : List ServerMessage). Accepts None (merge_of past) (ms ++ rest))
      (sym (alone past was i (server.refused reason offending ∷ []) idle refl refl))
      ((refl, tt), subst (λ (r : Rows). Accepts None r rest) same (accepts_early past2 was items (refl, idle) f.1))
  accepts_early past was (item.ping id ∷ items) idle f = cc f.0
  accepts_early past was (item.pong ∷ items) idle f = cc f.0
  accepts_early past was (item.subscribe s message cursors ∷ items) idle f = cc f.0.connected
  accepts_early past was (item.same message ∷ items) idle f = cc f.0.connected
  accepts_early past was (item.nosub message e ∷ items) idle f = cc f.0.connected
  accepts_early past was (item.close s message ∷ items) idle f = cc f.0.connected
  accepts_early past was (item.call k message seed ∷ items) idle f = cc f.0.connected
  accepts_early past was (item.unknown message ∷ items) idle f = cc f.0.connected
  accepts_early past was (item.load s place ∷ items) idle f = cc f.0.0
  accepts_early past was (item.advance s count ∷ items) idle f = absurd f.0
  accepts_early past was (item.refused k place ∷ items) idle f = absurd (never (moment_at C place) f.0)
    where
      never : (o : Option Moment) → IsRefusedAt o k None → ⊥
      never None r = r
      never (Some m) r = r
  accepts_early past was (item.unblocked k ∷ items) idle f = cc f.0.0
  accepts_early past was (item.finished k place ∷ items) idle f = cc f.0.0

  -- the messages of a journal, for a client that took none
  pub out_accepted : (items : List Item) → Fits app number C items → Accepts None [] (out C number items)
  out_accepted items f = subst (λ (r : Rows). Accepts None r (out C number items)) (idle_merge [] tt) (accepts_early [] false items tt f)
