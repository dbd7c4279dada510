-- What the journal of a session says of its calls: the application has the method of the one that blocks, which is the last; what has finished is told once all is shown.
use Rattle.std.specs.Prelude.{◌≡◌, ℕ, zero, suc, ◌+◌, ◌≤◌, ◌==◌, ◌&&◌, max, List, [], ◌∷◌, ◌++◌, length, true, false, cond, Option, None, Some, Ok, Err, is_some, refl}
use Rattle.std.proofs.Common.{ap, sym, subst, ◌∙◌, arith}
use Rattle.std.proofs.lemmas.Bool.{le-leb, eqb-true, and_parts}
use Rattle.value_model.specs.Val.{Val}
use Rattle.ddp_messages.specs.ClientMessage.{ClientMessage}
use Rattle.ddp_messages.specs.ClientMessage as client
use Rattle.app_model.specs.App.{App, method}
use Rattle.session_model.specs.declared.fault.SubFault.TheVariants as fault
use Rattle.session_model.specs.Publication.{Making, making}
use Rattle.session_model.specs.Items.{Item, id_of, name_of}
use Rattle.session_model.specs.Items as item
use Rattle.session_model.specs.Subscriptions.{Live, sub_named, is_crowded, past, is_open, cursor_of}
use Rattle.session_model.specs.Methods.{Phase, running, refused, finished, told, Method, Blocking, freed, turned, fired, fire}
use Rattle.session_model.specs.State.{State, started, or_zero, own_after, after, state_from, state_of}
use Rattle.session_model.specs.Moments.{Moment}
use Rattle.session_model.specs.Fits.{seed_or, opened_by, closed_by, item_for, CanFollow, FitsFrom}
use Rattle.session_journal_laws.specs.Fences.{IsShut, AreShut}
use Rattle.session_journal_laws.specs.FencesLaws.{after_shut}
use Rattle.session_state.specs.Work.{running_by, running_from}
use Rattle.server_connection.specs.AtRest.{IsDone, AreDone, is_at, are_at}

-- ---- the call that blocks

opened_none : (m : ClientMessage) (made : Making) (s k : ℕ) (message : ClientMessage) (seed : Val) → opened_by s m made ≡ item.call k message seed → ⊥
opened_none m (Ok cursors) s k message seed e = cc e
opened_none m (Err x) s k message seed e = cc e

closed_none : (m : ClientMessage) (o : Option ℕ) (k : ℕ) (message : ClientMessage) (seed : Val) → closed_by m o ≡ item.call k message seed → ⊥
closed_none m None k message seed e = cc e
closed_none m (Some s) k message seed e = cc e

call_known : (app : App) (number : ℕ) (st : State) (m : ClientMessage) (k : ℕ) (message : ClientMessage) (seed : Val) → item_for app number st m ≡ item.call k message seed → is_some (method app (name_of message)) ≡ true
call_known app number st (client.method id name params s) k message seed e =
    let m = client.method id name params s in
    elim (is_some (method app name)) as (λ b. is_some (method app name) ≡ b → cond b (item.call (length st.methods) m (seed_or number (length st.methods) s)) (item.unknown m) ≡ item.call k message seed → is_some (method app (name_of message)) ≡ true) [
      | true ↦ λ t is. let same : m ≡ message = cc is in ap (λ x. is_some (method app (name_of x))) (sym same) ∙ t
      | false ↦ λ t is. absurd (cc is)
    ] refl e
call_known app number st (client.sub id name params) k message seed e =
    let m = client.sub id name params in
    elim (is_some (sub_named id st.subs)) as (λ b. cond b (item.same m) (cond (is_crowded st.subs) (item.nosub m (Some fault.TooMany)) (opened_by st.opened m (making app name params))) ≡ item.call k message seed → is_some (method app (name_of message)) ≡ true) [
      | true ↦ λ is. absurd (cc is)
      | false ↦ elim (is_crowded st.subs) as (λ b. cond b (item.nosub m (Some fault.TooMany)) (opened_by st.opened m (making app name params)) ≡ item.call k message seed → is_some (method app (name_of message)) ≡ true) [
        | true ↦ λ is. absurd (cc is)
        | false ↦ λ is. absurd (opened_none m (making app name params) st.opened k message seed is)
      ]
    ] e
call_known app number st (client.unsub id) k message seed e = absurd (closed_none (client.unsub id) (sub_named id st.subs) k message seed e)
call_known app number st (client.connect version support) k message seed e = cc e
call_known app number st (client.ping id) k message seed e = cc e
call_known app number st (client.pong id) k message seed e = cc e

-- the application has the method of the call that blocks
abbrev IsKnown : App → Option Blocking → Type 0
IsKnown app None = Unit {0}
IsKnown app (Some b) = is_some (method app b.method) ≡ true

freed_known : (app : App) (k : ℕ) (o : Option Blocking) → IsKnown app o → IsKnown app (freed k o)
freed_known app k None p = tt
freed_known app k (Some b) p = elim (k == b.k) as (λ c. IsKnown app (cond c None (Some b))) [ true ↦ tt | false ↦ p ]

own_known : (app : App) (number : ℕ) (C : List Moment) (st : State) (i : Item) → CanFollow app number C st i → IsKnown app st.blocking → IsKnown app (own_after st i).blocking
own_known app number C st (item.call k message seed) f p = call_known app number st message k message seed f.made
own_known app number C st (item.refused k place) f p = freed_known app k st.blocking p
own_known app number C st (item.unblocked k) f p = freed_known app k st.blocking p
own_known app number C st (item.finished k place) f p = freed_known app k st.blocking p
own_known app number C st i f p = p

known_from : (app : App) (number : ℕ) (C : List Moment) (st : State) (items : List Item) → FitsFrom app number C st items → IsKnown app st.blocking → IsKnown app (state_from st items).blocking
known_from app number C st [] f p = p
known_from app number C st (i ∷ items) f p = known_from app number C (after st i) items f.1 (own_known app number C st i f.0 p)

pub blocking_known : (app : App) (number : ℕ) (C : List Moment) (items : List Item) → FitsFrom app number C started items → (b : Blocking) → (state_of items).blocking ≡ Some b → is_some (method app b.method) ≡ true
blocking_known app number C items f b is = subst (IsKnown app) is (known_from app number C started items f tt)

-- ---- where calls have finished

-- each call that has finished and is not told did so at one of the first places
abbrev IsBy : ℕ → Phase → Type 0
IsBy reach (finished place) = place ≤ reach
IsBy reach p = Unit {0}

abbrev AreBy : ℕ → List Method → Type 0
AreBy reach [] = Unit {0}
AreBy reach (m ∷ ms) = IsBy reach m.phase × AreBy reach ms

later_by : (r r' : ℕ) → r ≤ r' → (p : Phase) → IsBy r p → IsBy r' p
later_by r r' le (finished place) is = omega (arith, le, is)
later_by r r' le running is = tt
later_by r r' le refused is = tt
later_by r r' le (told place) is = tt

all_later : (r r' : ℕ) → r ≤ r' → (ms : List Method) → AreBy r ms → AreBy r' ms
all_later r r' le [] is = tt
all_later r r' le (m ∷ ms) is = (later_by r r' le m.phase is.0, all_later r r' le ms is.1)

turned_by : (r k : ℕ) (p : Phase) (ms : List Method) → IsBy r p → AreBy r ms → AreBy r (turned k p ms)
turned_by r k p [] is all = tt
turned_by r zero p (m ∷ ms) is all = (is, all.1)
turned_by r (suc k) p (m ∷ ms) is all = (all.0, turned_by r k p ms is all.1)

more_by : (r : ℕ) (ms : List Method) (m : Method) → AreBy r ms → IsBy r m.phase → AreBy r (ms ++ m ∷ [])
more_by r [] m all is = (is, tt)
more_by r (x ∷ ms) m all is = (all.0, more_by r ms m all.1 is)

fired_by : (r : ℕ) (ls : List Live) (p : Phase) → IsBy r p → IsBy r (fired ls p)
fired_by r ls (finished place) is = elim (is_open place ls) as (λ b. IsBy r (cond b (told place) (finished place))) [ true ↦ tt | false ↦ is ]
fired_by r ls running is = tt
fired_by r ls refused is = tt
fired_by r ls (told place) is = tt

fire_by : (r : ℕ) (ls : List Live) (ms : List Method) → AreBy r ms → AreBy r (fire ls ms)
fire_by r ls [] all = tt
fire_by r ls (m ∷ ms) all = (fired_by r ls m.phase all.0, fire_by r ls ms all.1)

left_below : (a b : ℕ) → a ≤ max a b
left_below a b = omega arith

right_below : (a b : ℕ) → b ≤ max a b
right_below a b = omega arith

own_by : (st : State) (i : Item) → AreBy st.reach st.methods → AreBy (own_after st i).reach (own_after st i).methods
own_by st (item.load s place) all = all_later st.reach (max st.reach place) (left_below st.reach place) st.methods all
own_by st (item.advance s count) all = let to = or_zero (cursor_of s st.subs) + count in all_later st.reach (max st.reach to) (left_below st.reach to) st.methods all
own_by st (item.call k message seed) all = more_by st.reach st.methods (record { id = id_of message; phase = running }) all tt
own_by st (item.refused k place) all = turned_by st.reach k refused st.methods tt all
own_by st (item.finished k place) all =
    turned_by (max st.reach place) k (finished place) st.methods (right_below st.reach place) (all_later st.reach (max st.reach place) (left_below st.reach place) st.methods all)
own_by st i all = all

by_from : (st : State) (items : List Item) → AreBy st.reach st.methods → AreBy (state_from st items).reach (state_from st items).methods
by_from st [] all = all
by_from st (i ∷ items) all = let own = own_after st i in by_from (after st i) items (fire_by own.reach own.subs own.methods (own_by st i all))

shut_from : (st : State) (items : List Item) → AreShut st.subs st.methods → AreShut (state_from st items).subs (state_from st items).methods
shut_from st [] shut = shut
shut_from st (i ∷ items) shut = shut_from (after st i) items (after_shut st i)

-- ---- all is told

past_at : (place n : ℕ) (o : Option ℕ) → place ≤ n → is_at n o ≡ true → past place o ≡ true
past_at place n None le is = cc is
past_at place n (Some cursor) le is = le-leb place cursor (let same = eqb-true cursor n is in omega (arith, le, same))

open_at : (place n : ℕ) (ls : List Live) → place ≤ n → are_at n ls ≡ true → is_open place ls ≡ true
open_at place n [] le all = refl
open_at place n (l ∷ ls) le all =
    let p = and_parts (is_at n l.cursor) (are_at n ls) all in
    ap (λ b. b && is_open place ls) (past_at place n l.cursor le p.0) ∙ open_at place n ls le p.1

no_more : (xs ys : List ℕ) → xs ++ ys ≡ [] → (xs ≡ []) × (ys ≡ [])
no_more [] ys e = (refl, e)
no_more (x ∷ xs) ys e = cc e

done_by : (n reach k : ℕ) (ls : List Live) (p : Phase) → reach ≤ n → are_at n ls ≡ true → running_by k p ≡ [] → IsShut ls p → IsBy reach p → IsDone p
done_by n reach k ls running le at none shut is = cc none
done_by n reach k ls refused le at none shut is = tt
done_by n reach k ls (finished place) le at none shut is =
    let opens = open_at place n ls (omega (arith, le, is)) at in
    let differ : true ≡ false = sym opens ∙ shut in cc differ
done_by n reach k ls (told place) le at none shut is = tt

all_done : (n reach k : ℕ) (ls : List Live) (ms : List Method) → reach ≤ n → are_at n ls ≡ true → running_from k ms ≡ [] → AreShut ls ms → AreBy reach ms → AreDone ms
all_done n reach k ls [] le at none shut all = tt
all_done n reach k ls (m ∷ ms) le at none shut all =
    let none' = no_more (running_by k m.phase) (running_from (suc k) ms) none in
    (done_by n reach k ls m.phase le at none'.0 shut.0 all.0, all_done n reach (suc k) ls ms le at none'.1 shut.1 all.1)

-- where no call runs, and each subscription shows a place that is not behind what the journal reached, each call was refused, or has finished and was told
pub are_done : (items : List Item) (n : ℕ) → (state_of items).reach ≤ n → are_at n (state_of items).subs ≡ true → running_from 0 (state_of items).methods ≡ [] → AreDone (state_of items).methods
are_done items n le at none =
    let st = state_of items in
    all_done n st.reach 0 st.subs st.methods le at none (shut_from started items tt) (by_from started items tt)

pub opens : (n m : ℕ) (ls : List Live) → m ≤ n → are_at n ls ≡ true → is_open m ls ≡ true
opens n m ls le at = open_at m n ls le at
