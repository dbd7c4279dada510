-- Laws: What an act of a client and its session leaves to be done by them.
use Rattle.std.specs.Prelude.{◌≡◌, ℕ, zero, suc, ◌+◌, ◌*◌, ◌≤◌, ◌<◌, ◌==◌, nat_lt, nat_le, List, [], ◌∷◌, ◌++◌, length, sum_by, true, false, cond}
use Rattle.std.specs.Prelude.{◌&&◌, Option, Some, None, is_some, is_none, IfSome, refl}
use Rattle.std.proofs.Common.{ap, sym, subst, ◌∙◌, arith}
use Rattle.std.proofs.lemmas.Bool.{and_parts, ltb-true, leb-true, eqb-true}
use Rattle.std.proofs.lemmas.List.{length-append}
use Rattle.std.proofs.lemmas.List.Sums.{sum_by-cons}
use Rattle.app_model.specs.App.{App}
use Rattle.world_model.specs.history_model.declared.entry.Entry.{Entry}
use Rattle.world_model.specs.session_model.Items.{Item}
use Rattle.world_model.specs.session_model.Items as item
use Rattle.world_model.specs.session_model.Subscriptions.{Live, cursor_of, may_load, loaded, moved, advanced, is_open}
use Rattle.world_model.specs.session_model.Methods.{Phase, running, refused, finished, told, Method, Blocking, is_blocked_by, freed, phase_at, turned}
use Rattle.world_model.specs.session_model.Methods.{fired, fire}
use Rattle.world_model.specs.session_model.Counting.{is_running as runs_on, one_if}
use Rattle.world_model.specs.session_model.State.{State, after, started}
use Rattle.world_model.specs.session_model.Taking.{Taken, at_once, to_queue, taken_text}
use Rattle.session_journal_laws.specs.Appending.{state-append}
use Rattle.world_model.specs.Conn.{Waiting, Conn, state_in, has_some}
use Rattle.world_model.specs.Acts.{with_item, goes_up, received_as, receives, handles, is_running, may_advance, sends, takes}
use Rattle.world_model.specs.Settle.{texts_in, cursor_left, cursors_in, asks_in}
use Rattle.headline.specs.Clients.{AreCalm, left_by, run_of, state_learns}

-- ---- one item more

pub item_state : (app : App) (history : List Entry) (c : Conn) (i : Item) → state_in (with_item app history c i) ≡ after (state_in c) i
item_state app history c i = state-append started c.items i

-- ---- what clients ask for

pub up_less : (c : Conn) (ts : List (List ℕ)) → c.client.waiting ≡ ts → has_some ts ≡ true → asks_in (goes_up c ts) < asks_in c
up_less c [] is some = absurd (cc some)
up_less c (t ∷ ts) is some = omega (arith, ap length is, length-append c.upward (t ∷ []))

pub recv_less : (app : App) (history : List Entry) (c : Conn) (ts : List (List ℕ)) → c.upward ≡ ts → has_some ts ≡ true →
    asks_in (receives app history c ts) < asks_in c
recv_less app history c [] is some = absurd (cc some)
recv_less app history c (t ∷ ts) is some = by (taken_text (state_in c).connected t)
  where
    by : (taken : Taken) → asks_in (received_as app history (record c { upward = ts; received = c.received ++ t ∷ [] }) (length t) taken) < asks_in c
    by (at_once i) = omega (arith, ap length is)
    by (to_queue message) = omega (arith, ap length is, length-append c.queue (record { message = message; bytes = length t } ∷ []))

pub handle_less : (app : App) (history : List Entry) (c : Conn) (ws : List Waiting) → c.queue ≡ ws → has_some ws ≡ true →
    asks_in (handles app history c ws) < asks_in c
handle_less app history c [] is some = absurd (cc some)
handle_less app history c (w ∷ ws) is some = omega (arith, ap length is)

-- ---- texts that are to be sent and taken

pub send_less : (c : Conn) (ts : List (List ℕ)) → c.outbox ≡ ts → has_some ts ≡ true → texts_in (sends c ts) < texts_in c
send_less c [] is some = absurd (cc some)
send_less c (t ∷ ts) is some = omega (arith, ap length is, length-append c.downward (t ∷ []))

pub take_less : (c : Conn) (ts : List (List ℕ)) → c.downward ≡ ts → has_some ts ≡ true → texts_in (takes c ts) < texts_in c
take_less c [] is some = absurd (cc some)
take_less c (t ∷ ts) is some = omega (arith, ap length is)

pub take_asks : (c : Conn) (ts : List (List ℕ)) → AreCalm ts → asks_in (takes c ts) ≡ asks_in c
take_asks c [] calm = refl
take_asks c (t ∷ ts) calm = ap (λ (ws : List (List ℕ)). 3 * length ws + 2 * length c.upward + length c.queue) (calm.0 c)

-- ---- cursors

loads_lower : (entries s place : ℕ) (ls : List Live) → may_load s place ls ≡ true → sum_by (left_by entries) (loaded s place ls) < sum_by (left_by entries) ls
loads_lower entries s place [] may = absurd (cc may)
loads_lower entries s place (l ∷ ls) may =
    let turn : Live = record l { cursor = Some place } in
    elim (s == l.sub) as
    (λ b. cond b (is_none l.cursor && nat_le l.floor place) (may_load s place ls) ≡ true →
    sum_by (left_by entries) (cond b (turn ∷ ls) (l ∷ loaded s place ls)) < sum_by (left_by entries) (l ∷ ls)) [
      | true ↦ λ m.
          let none = none_is l.cursor (and_parts (is_none l.cursor) (nat_le l.floor place) m).0 in
          omega (arith, sum_by-cons (left_by entries) turn ls, sum_by-cons (left_by entries) l ls, ap (cursor_left entries) none)
      | false ↦ λ m. omega (arith, sum_by-cons (left_by entries) l (loaded s place ls), sum_by-cons (left_by entries) l ls, loads_lower entries s place ls m)
    ] may
  where
    none_is : (o : Option ℕ) → is_none o ≡ true → o ≡ None
    none_is None e = refl
    none_is (Some n) e = cc e

moves_lower : (entries count : ℕ) (o : Option ℕ) → may_advance entries count o ≡ true → cursor_left entries (moved count o) < cursor_left entries o
moves_lower entries count None may = absurd (cc may)
moves_lower entries count (Some cursor) may =
    let parts = and_parts (nat_lt 0 count) (nat_le (cursor + count) entries) may in
    omega (arith, ltb-true 0 count parts.0, leb-true (cursor + count) entries parts.1)

advances_lower : (entries s count : ℕ) (ls : List Live) → may_advance entries count (cursor_of s ls) ≡ true →
    sum_by (left_by entries) (advanced s count ls) < sum_by (left_by entries) ls
advances_lower entries s count [] may = absurd (cc may)
advances_lower entries s count (l ∷ ls) may =
    let turn : Live = record l { cursor = moved count l.cursor } in
    elim (s == l.sub) as
    (λ b. may_advance entries count (cond b l.cursor (cursor_of s ls)) ≡ true →
    sum_by (left_by entries) (cond b (turn ∷ ls) (l ∷ advanced s count ls)) < sum_by (left_by entries) (l ∷ ls)) [
      | true ↦ λ m. omega (arith, sum_by-cons (left_by entries) turn ls, sum_by-cons (left_by entries) l ls, moves_lower entries count l.cursor m)
      | false ↦ λ m. omega
          (arith, sum_by-cons (left_by entries) l (advanced s count ls), sum_by-cons (left_by entries) l ls, advances_lower entries s count ls m)
    ] may

pub load_less : (app : App) (history : List Entry) (c : Conn) (s place : ℕ) → may_load s place (state_in c).subs ≡ true →
    cursors_in (length history) (with_item app history c (item.load s place)) < cursors_in (length history) c
load_less app history c s place may =
    subst (λ (st : State). sum_by (left_by (length history)) st.subs < sum_by (left_by (length history)) (state_in c).subs)
    (sym (item_state app history c (item.load s place)))
    (loads_lower (length history) s place (state_in c).subs may)

pub advance_less : (app : App) (history : List Entry) (c : Conn) (s count : ℕ) → may_advance (length history) count (cursor_of s (state_in c).subs) ≡ true →
    cursors_in (length history) (with_item app history c (item.advance s count)) < cursors_in (length history) c
advance_less app history c s count may =
    subst (λ (st : State). sum_by (left_by (length history)) st.subs < sum_by (left_by (length history)) (state_in c).subs)
    (sym (item_state app history c (item.advance s count)))
    (advances_lower (length history) s count (state_in c).subs may)

-- ---- calls that run

fired_same : (ls : List Live) (p : Phase) → runs_on (fired ls p) ≡ runs_on p
fired_same ls (finished place) = elim (is_open place ls) as (λ b. runs_on (cond b (told place) (finished place)) ≡ false) [ true ↦ refl | false ↦ refl ]
fired_same ls p = refl

pub fire_same : (ls : List Live) (ms : List Method) → sum_by run_of (fire ls ms) ≡ sum_by run_of ms
fire_same ls [] = refl
fire_same ls (m ∷ ms) =
    omega (
      arith,
      sum_by-cons run_of (record m { phase = fired ls m.phase }) (fire ls ms),
      sum_by-cons run_of m ms,
      fire_same ls ms,
      ap one_if (fired_same ls m.phase),
    )

turned_less : (k : ℕ) (p : Phase) (ms : List Method) → phase_at k ms ≡ Some running → runs_on p ≡ false → suc (sum_by run_of (turned k p ms)) ≡ sum_by run_of ms
turned_less k p [] is still = absurd (cc is)
turned_less zero p (m ∷ ms) is still =
    let was : m.phase ≡ running = cc is in
    omega (arith, sum_by-cons run_of (record m { phase = p }) ms, sum_by-cons run_of m ms, ap (λ q. one_if (runs_on q)) was, ap one_if still)
turned_less (suc k) p (m ∷ ms) is still = omega (arith, sum_by-cons run_of m (turned k p ms), sum_by-cons run_of m ms, turned_less k p ms is still)

freed_less : (k : ℕ) (b : Option Blocking) → one_if (is_some (freed k b)) ≤ one_if (is_some b)
freed_less k b = elim (is_blocked_by k b) as (λ x. one_if (is_some (cond x None b)) ≤ one_if (is_some b)) [ true ↦ omega arith | false ↦ omega arith ]

-- what is said of a call leaves less to learn
told_less : (st : State) (k : ℕ) (p : Phase) (place : ℕ) → phase_at k st.methods ≡ Some running → runs_on p ≡ false → (subs : List Live) → subs ≡ st.subs →
    sum_by run_of (fire subs (turned k p st.methods)) + one_if (is_some (freed k st.blocking)) < state_learns st
told_less st k p place is still subs same = omega (arith, fire_same subs (turned k p st.methods), turned_less k p st.methods is still, freed_less k st.blocking)

pub finish_less : (st : State) (k place : ℕ) → phase_at k st.methods ≡ Some running → state_learns (after st (item.finished k place)) < state_learns st
finish_less st k place is = told_less st k (finished place) place is refl st.subs refl

pub refuse_less : (st : State) (k place : ℕ) → phase_at k st.methods ≡ Some running → state_learns (after st (item.refused k place)) < state_learns st
refuse_less st k place is = told_less st k refused place is refl st.subs refl

blocked_some : (k : ℕ) (o : Option Blocking) → is_blocked_by k o ≡ true → one_if (is_some o) ≡ 1
blocked_some k None is = absurd (cc is)
blocked_some k (Some b) is = refl

pub unblock_less : (st : State) (k : ℕ) → is_blocked_by k st.blocking ≡ true → state_learns (after st (item.unblocked k)) < state_learns st
unblock_less st k is =
    let gone : one_if (is_some (freed k st.blocking)) ≡ 0 = ap (λ x. one_if (is_some (cond x None st.blocking))) is in
    omega (arith, fire_same st.subs st.methods, gone, blocked_some k st.blocking is)

-- ---- what holds of a client and its session

pub running_is : (o : Option Phase) → is_running o ≡ true → o ≡ Some running
running_is (Some running) e = refl
running_is (Some refused) e = cc e
running_is (Some (finished place)) e = cc e
running_is (Some (told place)) e = cc e
running_is None e = cc e

pub blocked_runs : (k : ℕ) (o : Option Blocking) (ms : List Method) → is_blocked_by k o ≡ true →
    IfSome o (λ (b : Blocking). phase_at b.k ms ≡ Some running) → phase_at k ms ≡ Some running
blocked_runs k None ms is runs = absurd (cc is)
blocked_runs k (Some b) ms is runs = ap (λ j. phase_at j ms) (eqb-true k b.k is) ∙ runs
