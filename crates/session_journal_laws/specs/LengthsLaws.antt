-- Laws: How many items a journal has: at most three for each text that was taken, and as many as the history is long for each subscription that was opened.
use native.Mathlib.Nat.{mul-add}
use Rattle.std.specs.Prelude.{◌≡◌, ℕ, zero, suc, ◌+◌, ◌-◌, ◌*◌, ◌≤◌, ◌==◌, nat_le, is_none, List, [], ◌∷◌, ◌++◌, length, filter, Bool, true, false}
use Rattle.std.specs.Prelude.{cond, not, ◌&&◌, Option, Some, None, refl}
use Rattle.std.proofs.Common.{ap, arith}
use Rattle.std.proofs.lemmas.List.{length-append}
use Rattle.std.proofs.lemmas.Bool.{and_parts}
use Rattle.ddp_messages.specs.ClientMessage.{ClientMessage}
use Rattle.app_model.specs.App.{App}
use Rattle.session_model.specs.Items.{Item, id_of, handled_by, handled}
use Rattle.session_model.specs.Items as item
use Rattle.session_model.specs.Subscriptions.{Live, cursor_of, loaded, moved, advanced, closed, may_load, is_open}
use Rattle.session_model.specs.Methods.{Phase, running, refused, finished, told, Method, Blocking, is_blocked_by, freed, phase_at, turned, fired, fire}
use Rattle.session_model.specs.State.{State, started, opening, own_after, after}
use Rattle.session_model.specs.Moments.{Moment}
use Rattle.session_model.specs.Fits.{MayAdvance, CanFollow, FitsFrom, Fits}
use Rattle.session_model.specs.Taking.{Taken, at_once, to_queue, taken_text, connects, item_of, message_of, answered_from, queued_from}
use Rattle.session_model.specs.Answering.{is_at_once, at_once_in, Answers}
use Rattle.session_model.specs.LooksBack.{one_opened, opened_in}
use Rattle.session_journal_laws.specs.Blocking.{BlocksLast}
use Rattle.session_journal_laws.specs.BlockingLaws.{last_after, refused_runs}
use Rattle.session_journal_laws.specs.CountsLaws.{none_blocks}
use Rattle.session_journal_laws.specs.Lengths.{block_left, call_left, calls_left, left, places_by, places_in, sub_left, subs_left, texts_by, texts_in}

-- ---- calls

call_fired : (ls : List Live) (p : Phase) → call_left (fired ls p) ≡ call_left p
call_fired ls (finished place) = elim (is_open place ls) as (λ b. call_left (cond b (told place) (finished place)) ≡ 0) [ true ↦ refl | false ↦ refl ]
call_fired ls running = refl
call_fired ls refused = refl
call_fired ls (told place) = refl

calls_fired : (ls : List Live) (ms : List Method) → calls_left (fire ls ms) ≡ calls_left ms
calls_fired ls [] = refl
calls_fired ls (m ∷ ms) = omega (arith, call_fired ls m.phase, calls_fired ls ms)

calls_more : (ms : List Method) (m : Method) → calls_left (ms ++ m ∷ []) ≡ calls_left ms + call_left m.phase
calls_more [] m = omega arith
calls_more (x ∷ ms) m = omega (arith, calls_more ms m)

calls_turned : (k : ℕ) (p : Phase) (ms : List Method) → phase_at k ms ≡ Some running → call_left p ≡ 0 → suc (calls_left (turned k p ms)) ≡ calls_left ms
calls_turned k p [] e none = cc e
calls_turned zero p (m ∷ ms) e none = let was : m.phase ≡ running = cc e in omega (arith, none, ap call_left was)
calls_turned (suc k) p (m ∷ ms) e none = omega (arith, calls_turned k p ms e none)

block_freed : (k : ℕ) (b : Option Blocking) → block_left (freed k b) ≤ block_left b
block_freed k b = elim (is_blocked_by k b) as (λ c. block_left (cond c None b) ≤ block_left b) [ true ↦ omega arith | false ↦ omega arith ]

block_gone : (k : ℕ) (b : Option Blocking) → is_blocked_by k b ≡ true → suc (block_left (freed k b)) ≡ block_left b
block_gone k None e = cc e
block_gone k (Some b) e = ap (λ c. suc (block_left (cond c None (Some b)))) e

-- ---- subscriptions

subs_more : (n : ℕ) (ls : List Live) (l : Live) → subs_left n (ls ++ l ∷ []) ≡ subs_left n ls + sub_left n l.cursor
subs_more n [] l = omega arith
subs_more n (x ∷ ls) l = omega (arith, subs_more n ls l)

subs_loaded : (n s place : ℕ) (ls : List Live) → may_load s place ls ≡ true → suc (subs_left n (loaded s place ls)) ≤ subs_left n ls
subs_loaded n s place [] e = cc e
subs_loaded n s place (l ∷ ls) e =
    elim (s == l.sub) as (λ b. cond b (is_none l.cursor && nat_le l.floor place) (may_load s place ls) ≡ true →
    suc (subs_left n (cond b (record l { cursor = Some place } ∷ ls) (l ∷ loaded s place ls))) ≤ sub_left n l.cursor + subs_left n ls) [
      | true ↦ λ f. omega (arith, one l.cursor (and_parts (is_none l.cursor) (nat_le l.floor place) f).0)
      | false ↦ λ f. omega (arith, subs_loaded n s place ls f)
    ] e
  where
    one : (o : Option ℕ) → is_none o ≡ true → suc (n - place) ≤ sub_left n o
    one None f = omega arith
    one (Some c) f = cc f

subs_advanced : (n m s count : ℕ) (ls : List Live) → m ≡ suc n → MayAdvance m count (cursor_of s ls) → suc (subs_left n (advanced s count ls)) ≤ subs_left n ls
subs_advanced n m s count [] e may = absurd may
subs_advanced n m s count (l ∷ ls) e may =
    elim (s == l.sub) as (λ b. MayAdvance m count (cond b l.cursor (cursor_of s ls)) →
    suc (subs_left n (cond b (record l { cursor = moved count l.cursor } ∷ ls) (l ∷ advanced s count ls))) ≤ sub_left n l.cursor + subs_left n ls) [
      | true ↦ λ f. omega (arith, one l.cursor f)
      | false ↦ λ f. omega (arith, subs_advanced n m s count ls e f)
    ] may
  where
    one : (o : Option ℕ) → MayAdvance m count o → suc (sub_left n (moved count o)) ≤ sub_left n o
    one None f = absurd f
    one (Some c) f = omega (arith, f.0, f.1, e)

subs_closed : (n s : ℕ) (ls : List Live) → subs_left n (closed s ls) ≤ subs_left n ls
subs_closed n s [] = omega arith
subs_closed n s (l ∷ ls) =
    elim (s == l.sub) as (λ b. subs_left n (cond (not b) (l ∷ closed s ls) (closed s ls)) ≤ sub_left n l.cursor + subs_left n ls) [
      | true ↦ omega (arith, subs_closed n s ls)
      | false ↦ omega (arith, subs_closed n s ls)
    ]

-- ---- items

module _ (app : App) (number : ℕ) (C : List Moment) (n : ℕ) (many : length C ≡ suc n) where
  -- an item takes the place of one that might have come, or answers a text
  abbrev Lowers : State → Item → Type 0
  Lowers st i = suc (left n (after st i)) ≤ left n st + (3 * texts_by i + places_by n i)

  lowers : (st : State) (i : Item) → CanFollow app number C st i → BlocksLast st → Lowers st i
  lowers st (item.subscribe s message cursors) f l =
      let x = opening st s message cursors in omega (arith, calls_fired (st.subs ++ x ∷ []) st.methods, subs_more n st.subs x)
  lowers st (item.load s place) f l = omega (arith, calls_fired (loaded s place st.subs) st.methods, subs_loaded n s place st.subs f.0)
  lowers st (item.advance s count) f l = omega (arith, calls_fired (advanced s count st.subs) st.methods, subs_advanced n (length C) s count st.subs many f)
  lowers st (item.close s message) f l = omega (arith, calls_fired (closed s st.subs) st.methods, subs_closed n s st.subs)
  lowers st (item.call k message seed) f l =
      let m : Method = record { id = id_of message; phase = running } in omega (arith, calls_fired st.subs (st.methods ++ m ∷ []), calls_more st.methods m)
  lowers st (item.refused k place) f l =
      omega (
        arith,
        calls_fired st.subs (turned k refused st.methods),
        calls_turned k refused st.methods (refused_runs C st k place f l) refl,
        block_freed k st.blocking,
      )
  lowers st (item.unblocked k) f l = omega (arith, calls_fired st.subs st.methods, block_gone k st.blocking f.0)
  lowers st (item.finished k place) f l =
      omega (arith, calls_fired st.subs (turned k (finished place) st.methods), calls_turned k (finished place) st.methods f.0 refl, block_freed k st.blocking)
  lowers st i f l = let own = own_after st i in omega (arith, calls_fired own.subs own.methods)

  all_lower : (st : State) (items : List Item) → FitsFrom app number C st items → BlocksLast st →
      length items ≤ left n st + (3 * texts_in items + places_in n items)
  all_lower st [] f l = omega arith
  all_lower st (i ∷ items) f l = omega (arith, lowers st i f.0 l, all_lower (after st i) items f.1 (last_after app number C st i f.0 l))

-- ---- texts

places_are : (n : ℕ) (items : List Item) → places_in n items ≡ n * opened_in items
places_are n [] = omega arith
places_are n (i ∷ items) = omega (arith, places_are n items, one i, mul-add n (one_opened i) (opened_in items))
  where
    one : (i : Item) → places_by n i ≡ n * one_opened i
    one (item.subscribe s message cursors) = omega arith
    one i = omega arith

texts_are : (items : List Item) → texts_in items ≡ length (handled items) + length (at_once_in items)
texts_are [] = refl
texts_are (i ∷ items) = omega (arith, texts_are items, length-append (handled_by i) (handled items), one)
  where
    one : length (at_once_in (i ∷ items)) ≡ length (filter is_at_once (i ∷ [])) + length (at_once_in items)
    one = elim (is_at_once i) as
        (λ b. length (cond b (i ∷ at_once_in items) (at_once_in items)) ≡ length (cond b (i ∷ []) []) + length (at_once_in items))
        [ true ↦ omega arith | false ↦ omega arith ]

-- each text comes to one thing
taken_once : (connected : Bool) (ts : List (List ℕ)) → length (queued_from connected ts) + length (answered_from connected ts) ≡ length ts
taken_once connected [] = refl
taken_once connected (t ∷ ts) = by (λ b. taken_once b ts) (taken_text connected t)
  where
    by : ((b : Bool) → length (queued_from b ts) + length (answered_from b ts) ≡ length ts) → (x : Taken) →
        length (message_of x ++ queued_from (connects connected x) ts) + length (item_of x ++ answered_from (connects connected x) ts) ≡ suc (length ts)
    by rest (at_once i) = omega (arith, rest (connects connected (at_once i)))
    by rest (to_queue m) = omega (arith, rest (connects connected (to_queue m)))

pub journals_are_short : (app : App) (number : ℕ) (C : List Moment) (n : ℕ) (texts : List (List ℕ)) (items : List Item) (waiting : List ClientMessage) →
    length C ≡ suc n → Fits app number C items → Answers texts items waiting →
    length items ≤ 3 * length texts + n * opened_in items
journals_are_short app number C n texts items waiting many f a =
    omega (
      arith,
      all_lower app number C n many started items f none_blocks,
      places_are n items,
      texts_are items,
      taken_once false texts,
      ap length a.at_once,
      ap length a.in_turn,
      length-append (handled items) waiting,
    )
