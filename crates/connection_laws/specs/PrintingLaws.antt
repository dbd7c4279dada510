-- Laws: What a client has and what its session did, as lines: these are printed from what is kept.
use Rattle.std.specs.Prelude.{◌≡◌, ℕ, List, [], ◌∷◌, ◌++◌, length, map, take, drop, codes, Option, refl}
use Rattle.std.proofs.Common.{ap, ap₂, ◌∙◌}
use Rattle.value_model.specs.Val.{Val, text}
use Rattle.ddp_messages.specs.ServerMessage.{ServerMessage}
use Rattle.app_model.specs.App.{App}
use Rattle.world_invariant_laws.specs.history_model.declared.entry.Entry.{Entry}
use Rattle.world_invariant_laws.specs.history_model.Lines.{worded}
use Rattle.client_model.specs.Lines.{line_texts}
use Rattle.client_core.specs.State.{show_lines}
use Rattle.ddp_messages.specs.Texts.{server_text}
use Rattle.world_invariant_laws.specs.session_model.Items.{Item}
use Rattle.world_invariant_laws.specs.session_model.Items as item
use Rattle.world_invariant_laws.specs.session_model.State.{State, started, after}
use Rattle.world_invariant_laws.specs.session_model.Moments.{Moment}
use Rattle.world_invariant_laws.specs.session_model.Shown.{Calls, call_of}
use Rattle.world_invariant_laws.specs.session_model.Out.{session_name, messages_of, out_from, counts_from}
use Rattle.session_laws.specs.session_journal_laws.declared.stored.Stored.{Stored}
use Rattle.session_laws.specs.session_journal_laws.Stands.{items_of}
use Rattle.session_laws.specs.Storing.{kept_as, shown_id}
use Rattle.world_invariant_laws.specs.world_model.Store.{moments}
use Rattle.world_invariant_laws.specs.world_model.Lines.{show_values, Line, value_line, out_line, item_value, items_lines, journal_lines, texts_of}
use Rattle.connection_laws.specs.Connection.{AConnection, as_conn, AreKeptOf, IsConnection}
use Rattle.connection_laws.specs.Printing.{kept_journal, kept_lines, kept_value}

-- ---- what a session did

value_is : (place : ℕ) (i : Item) → kept_value (kept_as place i) (shown_id i) ≡ item_value i
value_is place item.connect = refl
value_is place item.fail = refl
value_is place (item.ping id) = refl
value_is place item.pong = refl
value_is place (item.bad reason offending) = refl
value_is place (item.subscribe s message cursors) = refl
value_is place (item.same message) = refl
value_is place (item.nosub message fault) = refl
value_is place (item.close s message) = refl
value_is place (item.call k message seed) = refl
value_is place (item.unknown message) = refl
value_is place (item.load s at) = refl
value_is place (item.advance s count) = refl
value_is place (item.refused k at) = refl
value_is place (item.unblocked k) = refl
value_is place (item.finished k at) = refl

texts_taken : (ms rest : List ServerMessage) → map out_line (take (length ms) (map server_text (ms ++ rest))) ≡ map (λ m. out_line (server_text m)) ms
texts_taken [] rest = refl
texts_taken (m ∷ ms) rest = ap (λ (ls : List Line). out_line (server_text m) ∷ ls) (texts_taken ms rest)

texts_left : (ms rest : List ServerMessage) → drop (length ms) (map server_text (ms ++ rest)) ≡ map server_text rest
texts_left [] rest = refl
texts_left (m ∷ ms) rest = texts_left ms rest

lines_are : (C : List Moment) (n : ℕ) (past : Calls) (st : State) (ss : List Stored) (items : List Item) → AreKeptOf ss items →
    kept_lines ss (map shown_id items) (counts_from C n past st items) (map server_text (out_from C n past st items)) ≡ items_lines C n past st items
lines_are C n past st [] [] k = refl
lines_are C n past st [] (i ∷ items) k = absurd k
lines_are C n past st (s ∷ ss) [] k = absurd k
lines_are C n past st (s ∷ ss) (i ∷ items) k =
    let ms = messages_of C n past st i in
    let rest = out_from C n (call_of C st i ∷ past) (after st i) items in
    let value : kept_value s (shown_id i) ≡ item_value i = ap (λ (x : Stored). kept_value x (shown_id i)) k.0.is ∙ value_is k.0.place i in
    ap₂ (λ (v : Val) (ls : List Line). value_line v ∷ (ls ++ kept_lines ss (map shown_id items)
    (counts_from C n (call_of C st i ∷ past) (after st i) items) (drop (length ms) (map server_text (ms ++ rest))))) value (texts_taken ms rest)
    ∙ ap (λ (ls : List Line). value_line (item_value i) ∷ (map (λ m. out_line (server_text m)) ms ++ ls))
    (ap (kept_lines ss (map shown_id items) (counts_from C n (call_of C st i ∷ past) (after st i) items)) (texts_left ms rest)
    ∙ lines_are C n (call_of C st i ∷ past) (after st i) ss items k.1)

-- what is printed from what is kept are the lines of the session's journal
pub journal_is : (app : App) (name : List ℕ) (history : List Entry) (x : AConnection) → IsConnection app name history x →
    kept_journal x ≡ journal_lines app history (as_conn x)
journal_is app name history x p =
    let s = x.session in
    let n = s.carried.number in
    let C = moments app n history in
    let items = items_of x.received s.carried in
    let head = value_line (worded (codes "journal") (text (session_name n) ∷ [])) in
    ap (λ (ls : List Line). head ∷ ls)
    (ap₂ (λ (ids : List (Option (List ℕ))) (texts : List (List ℕ)). kept_lines s.carried.journal ids s.carried.counts texts) p.means.ids p.means.stands.texts
    ∙ (ap (λ (counts : List ℕ). kept_lines s.carried.journal (map shown_id items) counts (map server_text (out_from C n [] started items)))
    p.means.stands.counts
    ∙ lines_are C n [] started s.carried.journal items p.kinds))

-- ---- what a client has

-- what the client prints are the lines of its name
pub show_is : (app : App) (name : List ℕ) (history : List Entry) (x : AConnection) → IsConnection app name history x →
    line_texts (show_lines x.own) ≡ texts_of (show_values name (as_conn x).client)
show_is app name history x p = ap (λ (n : List ℕ). texts_of (show_values n x.own.client)) p.named
