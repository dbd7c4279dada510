-- Laws: A journal that fits a store's moments fits those with later ones, and its messages stay.
use Rattle.std.specs.Prelude.{◌≡◌, ℕ, zero, suc, ◌<◌, ◌≤◌, ◌==◌, List, [], ◌∷◌, ◌++◌, length, map, true, false, cond, not, Option, Some, None}
use Rattle.std.specs.Prelude.{option_and_then, refl}
use Rattle.std.proofs.Common.{ap, ap₂, sym, subst, ◌∙◌, arith}
use Rattle.std.proofs.lemmas.List.{length-append}
use Rattle.merge_model.specs.Publishing.{Call, apply}
use Rattle.value_model.specs.Val.{Entries}
use Rattle.ejson_value.specs.declared.key.Key.{Key}
use Rattle.ejson_value.specs.Key.{key_cmp}
use Rattle.ddp_messages.specs.ServerMessage.{ServerMessage}
use Rattle.program_steps.specs.declared.outcome.Status.{Status}
use Rattle.program_steps.specs.Runs.{End}
use Rattle.publication.specs.Cursors.{ACursors}
use Rattle.app_model.specs.App.{App}
use Rattle.session_model.specs.Publication.{queried}
use Rattle.ddp_messages.specs.Texts.{server_text}
use Rattle.session_model.specs.Items.{Item}
use Rattle.session_model.specs.Items as item
use Rattle.session_model.specs.Subscriptions.{Live, cursor_of, loaded, moved, advanced, closed}
use Rattle.session_model.specs.Methods.{Blocking, id_at}
use Rattle.session_model.specs.State.{State, started, opening, after, state_from}
use Rattle.session_model.specs.Moments.{Moment, moment_at, rows_of, run_of, run_at, end_at}
use Rattle.session_model.specs.Shown.{shown_at, shown_in, subject, news, Calls, call_of, calls_from, calls_of}
use Rattle.session_model.specs.Out.{results_by, own_messages, messages_of, out_from, counts_from, out_texts}
use Rattle.session_model.specs.Fits.{IsRefusedAt, MayAdvance, CanFollow, FitsFrom, Fits}
use Rattle.session_journal_laws.specs.Longer.{AreWithin, IsPlace, with_call}

-- ---- subscriptions at moments that are there

within_more : (n : ℕ) (ls : List Live) (l : Live) → AreWithin n ls → IsPlace n l.cursor → AreWithin n (ls ++ l ∷ [])
within_more n [] l w p = (p, tt)
within_more n (x ∷ ls) l w p = (w.0, within_more n ls l w.1 p)

within_loaded : (n s place : ℕ) (ls : List Live) → place < n → AreWithin n ls → AreWithin n (loaded s place ls)
within_loaded n s place [] p w = tt
within_loaded n s place (l ∷ ls) p w =
    elim (s == l.sub) as
    (λ b. AreWithin n (cond b (record l { cursor = Some place } ∷ ls) (l ∷ loaded s place ls)))
    [ true ↦ (p, w.1) | false ↦ (w.0, within_loaded n s place ls p w.1) ]

moved_within : (n count : ℕ) (o : Option ℕ) → MayAdvance n count o → IsPlace n (moved count o)
moved_within n count None may = tt
moved_within n count (Some place) may = may.1

within_advanced : (n s count : ℕ) (ls : List Live) → MayAdvance n count (cursor_of s ls) → AreWithin n ls → AreWithin n (advanced s count ls)
within_advanced n s count [] may w = tt
within_advanced n s count (l ∷ ls) may w =
    elim (s == l.sub) as
    (λ b. MayAdvance n count (cond b l.cursor (cursor_of s ls)) →
    AreWithin n (cond b (record l { cursor = moved count l.cursor } ∷ ls) (l ∷ advanced s count ls))) [
      | true ↦ λ m. (moved_within n count l.cursor m, w.1)
      | false ↦ λ m. (w.0, within_advanced n s count ls m w.1)
    ] may

within_closed : (n s : ℕ) (ls : List Live) → AreWithin n ls → AreWithin n (closed s ls)
within_closed n s [] w = tt
within_closed n s (l ∷ ls) w = elim (s == l.sub) as
    (λ b. AreWithin n (cond (not b) (l ∷ closed s ls) (closed s ls))) [ true ↦ within_closed n s ls w.1 | false ↦ (w.0, within_closed n s ls w.1) ]

pub within_after : (app : App) (number : ℕ) (C : List Moment) (st : State) (i : Item) → CanFollow app number C st i → AreWithin (length C) st.subs →
    AreWithin (length C) (after st i).subs
within_after app number C st (item.subscribe s message cursors) f w = within_more (length C) st.subs (opening st s message cursors) w tt
within_after app number C st (item.load s place) f w = within_loaded (length C) s place st.subs f.1 w
within_after app number C st (item.advance s count) f w = within_advanced (length C) s count st.subs f w
within_after app number C st (item.close s message) f w = within_closed (length C) s st.subs w
within_after app number C st i f w = w

pub within_from : (app : App) (number : ℕ) (C : List Moment) (st : State) (items : List Item) → FitsFrom app number C st items → AreWithin (length C) st.subs →
    AreWithin (length C) (state_from st items).subs
within_from app number C st [] f w = w
within_from app number C st (i ∷ items) f w = within_from app number C (after st i) items f.1 (within_after app number C st i f.0 w)

-- ---- what stands at a moment stays

pub moment_at-longer : (C more : List Moment) (place : ℕ) → place < length C → moment_at (C ++ more) place ≡ moment_at C place
moment_at-longer [] more place less = absurd (omega (arith, less))
moment_at-longer (m ∷ C) more zero less = refl
moment_at-longer (m ∷ C) more (suc place) less = moment_at-longer C more place (omega (arith, less))

moment_kept : (C more : List Moment) (place : ℕ) (m : Moment) → moment_at C place ≡ Some m → moment_at (C ++ more) place ≡ Some m
moment_kept [] more place m e = cc e
moment_kept (x ∷ C) more zero m e = e
moment_kept (x ∷ C) more (suc place) m e = moment_kept C more place m e

run_kept : (C more : List Moment) (place k : ℕ) (status : Status) → run_at C place k ≡ Some status → run_at (C ++ more) place k ≡ Some status
run_kept C more place k status e =
    elim (moment_at C place) as (λ o. moment_at C place ≡ o → run_of k o ≡ Some status → run_of k (moment_at (C ++ more) place) ≡ Some status) [
      | None ↦ λ is has. cc has
      | Some m ↦ λ is has. ap (run_of k) (moment_kept C more place m is) ∙ has
    ] refl e

pub end_kept : (C more : List Moment) (place k : ℕ) (end : End) → end_at C place k ≡ Some end → end_at (C ++ more) place k ≡ Some end
end_kept C more place k end e =
    elim (run_at C place k) as
    (λ o. run_at C place k ≡ o → option_and_then (λ (s : Status). s.ended) o ≡ Some end →
    option_and_then (λ (s : Status). s.ended) (run_at (C ++ more) place k) ≡ Some end) [
      | None ↦ λ is has. cc has
      | Some status ↦ λ is has. ap (option_and_then (λ (s : Status). s.ended)) (run_kept C more place k status is) ∙ has
    ] refl e

shown_at-longer : (C more : List Moment) (cursors : ACursors) (cursor : Option ℕ) → IsPlace (length C) cursor →
    shown_at (C ++ more) cursors cursor ≡ shown_at C cursors cursor
shown_at-longer C more cursors None p = refl
shown_at-longer C more cursors (Some place) p = ap (λ (o : Option Moment). queried cursors (rows_of o)) (moment_at-longer C more place p)

pub shown_in-longer : (C more : List Moment) (ls : List Live) (s : ℕ) → AreWithin (length C) ls → shown_in (C ++ more) ls s ≡ shown_in C ls s
shown_in-longer C more [] s w = refl
shown_in-longer C more (l ∷ ls) s w = ap₂ (cond (s == l.sub)) (shown_at-longer C more l.cursors l.cursor w.0) (shown_in-longer C more ls s w.1)

refused_kept : (C more : List Moment) (place k : ℕ) (b : Option Blocking) → IsRefusedAt (moment_at C place) k b → IsRefusedAt (moment_at (C ++ more) place) k b
refused_kept C more place k b r =
    elim (moment_at C place) as (λ o. moment_at C place ≡ o → IsRefusedAt o k b → IsRefusedAt (moment_at (C ++ more) place) k b) [
      | None ↦ λ is has. absurd has
      | Some m ↦ λ is has. subst (λ o. IsRefusedAt o k b) (sym (moment_kept C more place m is)) has
    ] refl r

pub advance-longer : (n m count : ℕ) (o : Option ℕ) → n ≤ m → MayAdvance n count o → MayAdvance m count o
advance-longer n m count None le may = may
advance-longer n m count (Some place) le may = (may.0, omega (arith, le, may.1))

pub can_follow-longer : (app : App) (number : ℕ) (C more : List Moment) (st : State) (i : Item) → CanFollow app number C st i →
    CanFollow app number (C ++ more) st i
can_follow-longer app number C more st (item.load s place) f = (f.0, omega (arith, f.1, length-append C more))
can_follow-longer app number C more st (item.advance s count) f =
    advance-longer (length C) (length (C ++ more)) count (cursor_of s st.subs) (omega (arith, length-append C more)) f
can_follow-longer app number C more st (item.refused k place) f = refused_kept C more place k st.blocking f
can_follow-longer app number C more st (item.unblocked k) f = let h = f.1 in
    (f.0, record { place = h.place; status = h.status; is = run_kept C more h.place k h.status h.is; unblocked = h.unblocked; ended = h.ended })
can_follow-longer app number C more st (item.finished k place) f =
    let h = f.1 in (f.0, record { end = h.end; is = end_kept C more place k h.end h.is; there = h.there })
can_follow-longer app number C more st i f = f

pub fits_from-longer : (app : App) (number : ℕ) (C more : List Moment) (st : State) (items : List Item) → FitsFrom app number C st items →
    FitsFrom app number (C ++ more) st items
fits_from-longer app number C more st [] f = tt
fits_from-longer app number C more st (i ∷ items) f = (can_follow-longer app number C more st i f.0, fits_from-longer app number C more (after st i) items f.1)

-- ---- the messages stay

pub call-longer : (C more : List Moment) (st : State) (i : Item) → AreWithin (length C) st.subs → AreWithin (length C) (after st i).subs →
    call_of (C ++ more) st i ≡ call_of C st i
call-longer C more st i w w' = let s = subject i in ap₂ (λ a b. apply s (news key_cmp a b)) (shown_in-longer C more st.subs s w)
    (shown_in-longer C more (after st i).subs s w')

own_messages-longer : (app : App) (number : ℕ) (C more : List Moment) (st : State) (i : Item) → CanFollow app number C st i →
    own_messages (C ++ more) number st i ≡ own_messages C number st i
own_messages-longer app number C more st (item.finished k place) f =
    let h = f.1 in ap (λ o. results_by o (id_at k st.methods)) (end_kept C more place k h.end h.is ∙ sym h.is)
own_messages-longer app number C more st i f = refl

pub messages-longer : (app : App) (number : ℕ) (C more : List Moment) (past : Calls) (st : State) (i : Item) → CanFollow app number C st i →
    AreWithin (length C) st.subs →
    messages_of (C ++ more) number past st i ≡ messages_of C number past st i
messages-longer app number C more past st i f w =
    ap₂ (with_call C number past st i) (call-longer C more st i w (within_after app number C st i f w)) (own_messages-longer app number C more st i f)

pub calls_from-longer : (app : App) (number : ℕ) (C more : List Moment) (past : Calls) (st : State) (items : List Item) →
    FitsFrom app number C st items → AreWithin (length C) st.subs →
    calls_from (C ++ more) past st items ≡ calls_from C past st items
calls_from-longer app number C more past st [] f w = refl
calls_from-longer app number C more past st (i ∷ items) f w =
    let w' = within_after app number C st i f.0 w in
    ap (λ (c : Call Key Entries). calls_from (C ++ more) (c ∷ past) (after st i) items) (call-longer C more st i w w')
    ∙ calls_from-longer app number C more (call_of C st i ∷ past) (after st i) items f.1 w'

pub out_from-longer : (app : App) (number : ℕ) (C more : List Moment) (past : Calls) (st : State) (items : List Item) → FitsFrom app number C st items →
    AreWithin (length C) st.subs →
    out_from (C ++ more) number past st items ≡ out_from C number past st items
out_from-longer app number C more past st [] f w = refl
out_from-longer app number C more past st (i ∷ items) f w =
    let w' = within_after app number C st i f.0 w in
    ap₂ (λ (ms : List ServerMessage) (c : Call Key Entries). ms ++ out_from (C ++ more) number (c ∷ past) (after st i) items)
    (messages-longer app number C more past st i f.0 w) (call-longer C more st i w w')
    ∙ ap (λ (ms : List ServerMessage). messages_of C number past st i ++ ms)
    (out_from-longer app number C more (call_of C st i ∷ past) (after st i) items f.1 w')

pub counts_from-longer : (app : App) (number : ℕ) (C more : List Moment) (past : Calls) (st : State) (items : List Item) →
    FitsFrom app number C st items → AreWithin (length C) st.subs →
    counts_from (C ++ more) number past st items ≡ counts_from C number past st items
counts_from-longer app number C more past st [] f w = refl
counts_from-longer app number C more past st (i ∷ items) f w =
    let w' = within_after app number C st i f.0 w in
    ap₂ (λ (ms : List ServerMessage) (c : Call Key Entries). length ms ∷ counts_from (C ++ more) number (c ∷ past) (after st i) items)
    (messages-longer app number C more past st i f.0 w) (call-longer C more st i w w')
    ∙ ap (λ (ns : List ℕ). length (messages_of C number past st i) ∷ ns)
    (counts_from-longer app number C more (call_of C st i ∷ past) (after st i) items f.1 w')

pub calls-longer : (app : App) (number : ℕ) (C more : List Moment) (items : List Item) → Fits app number C items → calls_of (C ++ more) items ≡ calls_of C items
calls-longer app number C more items f = calls_from-longer app number C more [] started items f tt

pub out_texts-longer : (app : App) (number : ℕ) (C more : List Moment) (items : List Item) → Fits app number C items →
    out_texts (C ++ more) number items ≡ out_texts C number items
out_texts-longer app number C more items f = ap (map server_text) (out_from-longer app number C more [] started items f tt)
