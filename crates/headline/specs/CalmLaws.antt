-- Laws: No text of a session asks its client for anything.
use Rattle.std.specs.Prelude.{◌≡◌, ℕ, nat_lt, List, [], ◌∷◌, ◌++◌, length, map, true, false, cond, Option, Some, None, Result, Ok, Err, refl}
use Rattle.std.proofs.Common.{sym, subst, append-nil}
use Rattle.map_model.specs.Differences.{Step}
use Rattle.value_model.specs.Val.{Val}
use Rattle.ejson_value.specs.declared.fault.Fault.{Fault}
use Rattle.ejson_value.specs.declared.key.Key.{Key}
use Rattle.ddp_messages.specs.Answers.{server_answer}
use Rattle.ddp_messages.specs.declared.fault.MsgFault.{MsgFault}
use Rattle.ddp_messages.specs.declared.fault.MsgFault.TheVariants.{Parse, BadRequest, Memory}
use Rattle.ddp_messages.specs.ServerMessage.{ServerMessage}
use Rattle.ddp_messages.specs.ServerMessage as server
use Rattle.program_steps.specs.Runs.{Outcome, done, failed, End}
use Rattle.app_model.specs.App.{App}
use Rattle.client_model.specs.Client.{Client}
use Rattle.client_model.specs.Taking.{max_server_text, breaks, message_refusal, told_message, told_unless, told_answer}
use Rattle.world_model.specs.session_model.Texts.{message_in, messages_in, or_unknown}
use Rattle.world_model.specs.session_model.Items.{Item}
use Rattle.world_model.specs.session_model.Items as item
use Rattle.world_model.specs.session_model.Subscriptions.{ids_of}
use Rattle.world_model.specs.session_model.Methods.{id_at}
use Rattle.world_model.specs.session_model.State.{State, started, after}
use Rattle.world_model.specs.session_model.Moments.{Moment, end_at}
use Rattle.world_model.specs.session_model.Shown.{Calls, call_of, merge_of, difference}
use Rattle.world_model.specs.session_model.Out.{about, ready, updated, result_by, results_by, all_refused_with, history_full, own_messages}
use Rattle.world_model.specs.session_model.Out.{told_after, out_from, out_texts}
use Rattle.world_model.specs.session_model.Fits.{Fits}
use Rattle.world_model.specs.session_model.Kept.{AreKept}
use Rattle.session_journal_laws.specs.ReadableLaws.{out_reads}
use Rattle.headline.specs.Clients.{IsCalm, AreCalm}
use Rattle.headline.specs.Calm.{AreMild, IsMild}

-- ---- messages

mild_both : (xs ys : List ServerMessage) → AreMild xs → AreMild ys → AreMild (xs ++ ys)
mild_both [] ys a b = b
mild_both (x ∷ xs) ys a b = (a.0, mild_both xs ys a.1 b)

mild_data : (ds : List (Key × Step (List ℕ) Val)) → AreMild (map about ds)
mild_data [] = tt
mild_data (d ∷ ds) = (tt, mild_data ds)

mild_updated : (ids : List (List ℕ)) → AreMild (map updated ids)
mild_updated [] = tt
mild_updated (id ∷ ids) = (tt, mild_updated ids)

mild_ready : (ids : List (List ℕ)) → AreMild (map ready ids)
mild_ready [] = tt
mild_ready (id ∷ ids) = (tt, mild_ready ids)

mild_result : (outcome : Outcome) (id : List ℕ) → IsMild (result_by outcome id)
mild_result (done value) id = tt
mild_result (failed fault) id = tt

mild_results : (o : Option End) (ids : List (List ℕ)) → AreMild (results_by o ids)
mild_results None ids = tt
mild_results (Some end) [] = tt
mild_results (Some end) (id ∷ ids) = (mild_result end.outcome id, mild_results (Some end) ids)

mild_refused : (fault : Fault) (ids : List (List ℕ)) → AreMild (all_refused_with fault ids)
mild_refused fault [] = tt
mild_refused fault (id ∷ ids) = (tt, (tt, mild_refused fault ids))

mild_own : (C : List Moment) (number : ℕ) (st : State) (i : Item) → AreMild (own_messages C number st i)
mild_own C number st item.connect = (tt, tt)
mild_own C number st item.fail = (tt, tt)
mild_own C number st (item.ping id) = (tt, tt)
mild_own C number st (item.bad reason offending) = (tt, tt)
mild_own C number st (item.nosub message fault) = (tt, tt)
mild_own C number st (item.load s place) = mild_ready (ids_of s st.subs)
mild_own C number st (item.close s message) = (tt, tt)
mild_own C number st (item.unknown message) = (tt, (tt, tt))
mild_own C number st (item.refused k place) = mild_refused history_full (id_at k st.methods)
mild_own C number st (item.finished k place) = mild_results (end_at C place k) (id_at k st.methods)
mild_own C number st i = tt

mild_from : (C : List Moment) (number : ℕ) (past : Calls) (st : State) (items : List Item) → AreMild (out_from C number past st items)
mild_from C number past st [] = tt
mild_from C number past st (i ∷ items) =
    let changes = difference (merge_of past) (merge_of (call_of C st i ∷ past)) in
    let words = own_messages C number st i ++ map updated (told_after st i) in
    mild_both (map about changes ++ words) (out_from C number (call_of C st i ∷ past) (after st i) items)
    (mild_both (map about changes) words (mild_data changes)
    (mild_both (own_messages C number st i) (map updated (told_after st i)) (mild_own C number st i) (mild_updated (told_after st i))))
    (mild_from C number (call_of C st i ∷ past) (after st i) items)

-- ---- texts

mild_told : (c : Client) (m : ServerMessage) → IsMild m → (told_message c m).waiting ≡ c.waiting
mild_told c (server.ping id) mild = absurd mild
mild_told c (server.pong id) mild = append-nil c.waiting
mild_told c (server.connected session) mild = append-nil c.waiting
mild_told c (server.failed version) mild = append-nil c.waiting
mild_told c (server.nosub id fault) mild = append-nil c.waiting
mild_told c (server.ready ids) mild = append-nil c.waiting
mild_told c (server.about m) mild = append-nil c.waiting
mild_told c (server.finished id fault value) mild = append-nil c.waiting
mild_told c (server.updated ids) mild = append-nil c.waiting
mild_told c (server.refused reason offending) mild = append-nil c.waiting
mild_told c server.unknown mild = append-nil c.waiting

unless_told : (c : Client) (m : ServerMessage) (o : Option ℕ) → IsMild m → (told_unless c m o).waiting ≡ c.waiting
unless_told c m None mild = mild_told c m mild
unless_told c m (Some n) mild = refl

answer_told : (c : Client) (r : Result ServerMessage MsgFault) → IsMild (or_unknown r) → (told_answer c r).waiting ≡ c.waiting
answer_told c (Ok m) mild = unless_told c m (message_refusal c m) mild
answer_told c (Err Parse) mild = refl
answer_told c (Err (BadRequest name)) mild = refl
answer_told c (Err Memory) mild = refl

mild_text : (t : List ℕ) → IsMild (message_in t) → IsCalm t
mild_text t mild c =
    elim (nat_lt max_server_text (length t)) as (λ b. (cond b (breaks 1 c.client) (told_answer c.client (server_answer t))).waiting ≡ c.client.waiting) [
      | true ↦ refl
      | false ↦ answer_told c.client (server_answer t) mild
    ]

mild_texts : (ts : List (List ℕ)) → AreMild (messages_in ts) → AreCalm ts
mild_texts [] mild = tt
mild_texts (t ∷ ts) mild = (mild_text t mild.0, mild_texts ts mild.1)

pub calm_first : (xs ys : List (List ℕ)) → AreCalm (xs ++ ys) → AreCalm xs
calm_first [] ys a = tt
calm_first (x ∷ xs) ys a = (a.0, calm_first xs ys a.1)

pub calm_last : (xs ys : List (List ℕ)) → AreCalm (xs ++ ys) → AreCalm ys
calm_last [] ys a = a
calm_last (x ∷ xs) ys a = calm_last xs ys a.1

-- the texts of a journal
pub journal_calm : (app : App) (number : ℕ) (C : List Moment) (items : List Item) → AreKept C → Fits app number C items → AreCalm (out_texts C number items)
journal_calm app number C items kept fits =
    mild_texts (out_texts C number items) (subst AreMild (sym (out_reads app number C items kept fits).1) (mild_from C number [] started items))
