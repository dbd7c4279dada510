-- Laws: From the `updated` of a call on, no subscription shows less than what the call wrote: one that was live then is as far, and one that is
-- opened later has a floor as high.
use Rattle.std.specs.Prelude.{◌≡◌, ℕ, zero, suc, ◌+◌, ◌≤◌, ◌==◌, max, nat_le, is_none, ◌&&◌, List, [], ◌∷◌, ◌++◌, true, false, cond, not, Option}
use Rattle.std.specs.Prelude.{Some, None, refl}
use Rattle.std.proofs.Common.{arith}
use Rattle.std.proofs.lemmas.Bool.{leb-true}
use Rattle.app_model.specs.App.{App}
use Rattle.session_model.specs.Items.{Item, id_of}
use Rattle.session_model.specs.Items as item
use Rattle.session_model.specs.Subscriptions.{Live, cursor_of, loaded, moved, advanced, closed, may_load, past, is_open}
use Rattle.session_model.specs.Methods.{Phase, running, refused, finished, told, Method, turned, fired, fire}
use Rattle.session_model.specs.State.{State, started, or_zero, opening, own_after, after, state_from, state_of}
use Rattle.session_model.specs.Moments.{Moment}
use Rattle.session_model.specs.Fits.{CanFollow, FitsFrom, Fits}
use Rattle.session_model.specs.CaughtUp.{far, AreFar, IsShown, AreShown, AreCaughtUp}
use Rattle.session_journal_laws.specs.Fences.{AreHeld, AreShut, IsHeld, IsShut, Keeps}

-- one law on one phase carries a change of the subscriptions over all calls
all_held : (r r2 : ℕ) (ls ls2 : List Live) → ((p : Phase) → IsHeld r ls p → IsHeld r2 ls2 p) → (ms : List Method) → AreHeld r ls ms → AreHeld r2 ls2 ms
all_held r r2 ls ls2 h [] a = tt
all_held r r2 ls ls2 h (m ∷ ms) a = (h m.phase a.0, all_held r r2 ls ls2 h ms a.1)

later : (r r2 : ℕ) (ls ls2 : List Live) → r ≤ r2 → ((place : ℕ) → place ≤ r → AreFar place ls → AreFar place ls2) → (p : Phase) → IsHeld r ls p →
    IsHeld r2 ls2 p
later r r2 ls ls2 le h (finished place) c = omega (arith, le, c)
later r r2 ls ls2 le h (told place) c = (omega (arith, le, c.0), h place c.0 c.1)
later r r2 ls ls2 le h p c = tt

far-append : (place : ℕ) (ls : List Live) (l : Live) → AreFar place ls → place ≤ far l.cursor l.floor → AreFar place (ls ++ l ∷ [])
far-append place [] l a le = (le, tt)
far-append place (x ∷ ls) l a le = (a.0, far-append place ls l a.1 le)

unloaded : (place n floor : ℕ) (o : Option ℕ) → (is_none o && nat_le floor n) ≡ true → place ≤ far o floor → place ≤ n
unloaded place n floor None e le = omega (arith, le, leb-true floor n e)
unloaded place n floor (Some c) e le = cc e

far_loaded : (place s n : ℕ) (ls : List Live) → may_load s n ls ≡ true → AreFar place ls → AreFar place (loaded s n ls)
far_loaded place s n [] f a = tt
far_loaded place s n (l ∷ ls) f a =
    elim (s == l.sub) as
    (λ b. cond b (is_none l.cursor && nat_le l.floor n) (may_load s n ls) ≡ true →
    AreFar place (cond b (record l { cursor = Some n } ∷ ls) (l ∷ loaded s n ls))) [
      | true ↦ λ g. (unloaded place n l.floor l.cursor g a.0, a.1)
      | false ↦ λ g. (a.0, far_loaded place s n ls g a.1)
    ] f

far_moved : (place n floor : ℕ) (o : Option ℕ) → place ≤ far o floor → place ≤ far (moved n o) floor
far_moved place n floor None le = le
far_moved place n floor (Some c) le = omega (arith, le)

far_advanced : (place s n : ℕ) (ls : List Live) → AreFar place ls → AreFar place (advanced s n ls)
far_advanced place s n [] a = tt
far_advanced place s n (l ∷ ls) a =
    elim (s == l.sub) as (λ b. AreFar place (cond b (record l { cursor = moved n l.cursor } ∷ ls) (l ∷ advanced s n ls))) [
      | true ↦ (far_moved place n l.floor l.cursor a.0, a.1)
      | false ↦ (a.0, far_advanced place s n ls a.1)
    ]

far_closed : (place s : ℕ) (ls : List Live) → AreFar place ls → AreFar place (closed s ls)
far_closed place s [] a = tt
far_closed place s (l ∷ ls) a =
    elim (s == l.sub) as
    (λ b. AreFar place (cond (not b) (l ∷ closed s ls) (closed s ls))) [ true ↦ far_closed place s ls a.1 | false ↦ (a.0, far_closed place s ls a.1) ]

-- an open fence: each subscription is as far
past_far : (place : ℕ) (o : Option ℕ) (floor : ℕ) → past place o ≡ true → place ≤ far o floor
past_far place None floor e = cc e
past_far place (Some c) floor e = leb-true place c e

open_far : (place : ℕ) (ls : List Live) → is_open place ls ≡ true → AreFar place ls
open_far place [] e = tt
open_far place (l ∷ ls) e =
    elim (past place l.cursor) as (λ b. past place l.cursor ≡ b → (b && is_open place ls) ≡ true → AreFar place (l ∷ ls)) [
      | true ↦ λ is rest. (past_far place l.cursor l.floor is, open_far place ls rest)
      | false ↦ λ is rest. cc rest
    ] refl e

fired_held : (r : ℕ) (ls : List Live) (p : Phase) → IsHeld r ls p → IsHeld r ls (fired ls p)
fired_held r ls (finished place) c =
    elim (is_open place ls) as
    (λ b. is_open place ls ≡ b → IsHeld r ls (cond b (told place) (finished place))) [ true ↦ λ e. (c, open_far place ls e) | false ↦ λ e. c ] refl
fired_held r ls p c = c

fire_held : (r : ℕ) (ls : List Live) (ms : List Method) → AreHeld r ls ms → AreHeld r ls (fire ls ms)
fire_held r ls [] a = tt
fire_held r ls (m ∷ ms) a = (fired_held r ls m.phase a.0, fire_held r ls ms a.1)

turned_held : (r : ℕ) (ls : List Live) (k : ℕ) (p : Phase) (ms : List Method) → IsHeld r ls p → AreHeld r ls ms → AreHeld r ls (turned k p ms)
turned_held r ls k p [] c a = tt
turned_held r ls zero p (m ∷ ms) c a = (c, a.1)
turned_held r ls (suc k) p (m ∷ ms) c a = (a.0, turned_held r ls k p ms c a.1)

held-append : (r : ℕ) (ls : List Live) (ms : List Method) (m : Method) → AreHeld r ls ms → IsHeld r ls m.phase → AreHeld r ls (ms ++ m ∷ [])
held-append r ls [] m a c = (c, tt)
held-append r ls (x ∷ ms) m a c = (a.0, held-append r ls ms m a.1 c)

left_below : (a b : ℕ) → a ≤ max a b
left_below a b = omega arith

right_below : (a b : ℕ) → b ≤ max a b
right_below a b = omega arith

own_keeps : (app : App) (number : ℕ) (C : List Moment) (st : State) (i : Item) → CanFollow app number C st i → Keeps st → Keeps (own_after st i)
own_keeps app number C st (item.subscribe s message cursors) f k =
    all_held st.reach st.reach st.subs _
    (later st.reach st.reach st.subs _ (omega arith) (λ place le a. far-append place st.subs (opening st s message cursors) a le)) st.methods k
own_keeps app number C st (item.load s n) f k = all_held st.reach _ st.subs _
    (later st.reach _ st.subs _ (left_below st.reach n) (λ place le a. far_loaded place s n st.subs f.0 a)) st.methods k
own_keeps app number C st (item.advance s n) f k =
    all_held st.reach _ st.subs _
    (later st.reach _ st.subs _ (left_below st.reach (or_zero (cursor_of s st.subs) + n)) (λ place le a. far_advanced place s n st.subs a)) st.methods k
own_keeps app number C st (item.close s message) f k = all_held st.reach st.reach st.subs _
    (later st.reach st.reach st.subs _ (omega arith) (λ place le a. far_closed place s st.subs a)) st.methods k
own_keeps app number C st (item.call j message seed) f k = held-append st.reach st.subs st.methods (record { id = id_of message; phase = running }) k tt
own_keeps app number C st (item.refused n place) f k = turned_held st.reach st.subs n refused st.methods tt k
own_keeps app number C st (item.finished n place) f k =
    let r = max st.reach place in
    turned_held r st.subs n (finished place) st.methods (right_below st.reach place)
    (all_held st.reach r st.subs st.subs (later st.reach r st.subs st.subs (left_below st.reach place) (λ x le a. a)) st.methods k)
own_keeps app number C st i f k = k

after_keeps : (app : App) (number : ℕ) (C : List Moment) (st : State) (i : Item) → CanFollow app number C st i → Keeps st → Keeps (after st i)
after_keeps app number C st i f k = let own = own_after st i in fire_held own.reach own.subs own.methods (own_keeps app number C st i f k)

state_keeps : (app : App) (number : ℕ) (C : List Moment) (st : State) (items : List Item) → FitsFrom app number C st items → Keeps st →
    Keeps (state_from st items)
state_keeps app number C st [] f k = k
state_keeps app number C st (i ∷ items) f k = state_keeps app number C (after st i) items f.1 (after_keeps app number C st i f.0 k)

shown_of : (r : ℕ) (ls : List Live) (p : Phase) → IsHeld r ls p → IsShown ls p
shown_of r ls (told place) h = h.1
shown_of r ls p h = tt

all_shown : (r : ℕ) (ls : List Live) (ms : List Method) → AreHeld r ls ms → AreShown ls ms
all_shown r ls [] h = tt
all_shown r ls (m ∷ ms) h = (shown_of r ls m.phase h.0, all_shown r ls ms h.1)

-- Over every journal: what a call wrote that was told `updated` is shown by each subscription that is loaded, and will be by each other.
pub caught_up : (app : App) (number : ℕ) (C : List Moment) (items : List Item) → Fits app number C items → AreCaughtUp (state_of items)
caught_up app number C items f = let st = state_of items in all_shown st.reach st.subs st.methods (state_keeps app number C started items f tt)

fired_shut : (ls : List Live) (p : Phase) → IsShut ls (fired ls p)
fired_shut ls (finished place) = elim (is_open place ls) as
    (λ b. is_open place ls ≡ b → IsShut ls (cond b (told place) (finished place))) [ true ↦ λ e. tt | false ↦ λ e. e ] refl
fired_shut ls running = tt
fired_shut ls refused = tt
fired_shut ls (told place) = tt

fire_shut : (ls : List Live) (ms : List Method) → AreShut ls (fire ls ms)
fire_shut ls [] = tt
fire_shut ls (m ∷ ms) = (fired_shut ls m.phase, fire_shut ls ms)

pub after_shut : (st : State) (i : Item) → let next = after st i in AreShut next.subs next.methods
after_shut st i = let own = own_after st i in fire_shut own.subs own.methods
