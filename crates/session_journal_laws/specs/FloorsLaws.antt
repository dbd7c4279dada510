-- Laws: The floor that a session keeps of a subscription is the one that its journal says.
use Rattle.std.specs.Prelude.{◌≡◌, ℕ, ◌≤◌, ◌==◌, max, List, [], ◌∷◌, ◌++◌, Bool, true, false, cond, not, ◌||◌, Some, refl}
use Rattle.std.proofs.Common.{ap, ap₂, sym, subst, ◌∙◌, arith, append-nil}
use Rattle.std.proofs.lemmas.List.{append_assoc}
use Rattle.std.proofs.lemmas.Bool.{eq-eqb, ne_eqb}
use Rattle.app_model.specs.App.{App}
use Rattle.session_model.specs.Items.{Item}
use Rattle.session_model.specs.Items as item
use Rattle.session_model.specs.Subscriptions.{Live, loaded, moved, advanced, closed}
use Rattle.session_model.specs.State.{State, started, or_zero, opening, after, state_from, state_of}
use Rattle.session_model.specs.Moments.{Moment}
use Rattle.session_model.specs.Fits.{CanFollow, FitsFrom, Fits}
use Rattle.session_model.specs.LooksBack.{place_by, reach_from, opens, before_open}
use Rattle.session_journal_laws.specs.HandledLaws.{open_is}
use Rattle.session_journal_laws.specs.TrackingLaws.{tracks_first, tracks_after}
use Rattle.session_journal_laws.specs.Floors.{AreFloors, HasFloor, HaveFloors, KnowsFloors, is_opened}

-- ---- one item at the end

reach-append : (before items : List Item) (i : Item) → reach_from before (items ++ i ∷ []) ≡ max (reach_from before items) (place_by (before ++ items) i)
reach-append before [] i = omega (arith, ap (λ b. place_by b i) (append-nil before))
reach-append before (j ∷ items) i = omega (arith, reach-append (before ++ j ∷ []) items i, ap (λ b. place_by b i) (append_assoc before (j ∷ []) items))

or_false : (b : Bool) → (b || false) ≡ b
or_false true = refl
or_false false = refl

or_assoc : (a b c : Bool) → (a || (b || c)) ≡ ((a || b) || c)
or_assoc true b c = refl
or_assoc false b c = refl

opened-append : (s : ℕ) (items : List Item) (i : Item) → is_opened s (items ++ i ∷ []) ≡ (is_opened s items || opens s i)
opened-append s [] i = or_false (opens s i)
opened-append s (j ∷ items) i = ap (λ b. opens s j || b) (opened-append s items i) ∙ or_assoc (opens s j) (is_opened s items) (opens s i)

before_same : (s : ℕ) (items : List Item) (i : Item) → is_opened s items ≡ true → before_open s (items ++ i ∷ []) ≡ before_open s items
before_same s [] i e = cc e
before_same s (j ∷ items) i e =
    elim (opens s j) as (λ b. (b || is_opened s items) ≡ true → cond b [] (j ∷ before_open s (items ++ i ∷ [])) ≡ cond b [] (j ∷ before_open s items)) [
      | true ↦ λ is. refl
      | false ↦ λ is. ap (λ rest. j ∷ rest) (before_same s items i is)
    ] e

before_first : (s : ℕ) (items : List Item) (i : Item) → is_opened s items ≡ false → opens s i ≡ true → before_open s (items ++ i ∷ []) ≡ items
before_first s [] i e o = ap (λ b. cond b [] (i ∷ [])) o
before_first s (j ∷ items) i e o =
    elim (opens s j) as (λ b. (b || is_opened s items) ≡ false → cond b [] (j ∷ before_open s (items ++ i ∷ [])) ≡ j ∷ items) [
      | true ↦ λ is. cc is
      | false ↦ λ is. ap (λ rest. j ∷ rest) (before_first s items i is o)
    ] e

-- ---- each live subscription

floor_stays : (items : List Item) (i : Item) (l : Live) → HasFloor items l → HasFloor (items ++ i ∷ []) l
floor_stays items i l h = (opened-append l.sub items i ∙ ap (λ b. b || opens l.sub i) h.0, h.1 ∙ sym (ap (reach_from []) (before_same l.sub items i h.0)))

floors_stay : (items : List Item) (i : Item) (ls : List Live) → HaveFloors items ls → HaveFloors (items ++ i ∷ []) ls
floors_stay items i [] h = tt
floors_stay items i (l ∷ ls) h = (floor_stays items i l h.0, floors_stay items i ls h.1)

floors_loaded : (items : List Item) (s place : ℕ) (ls : List Live) → HaveFloors items ls → HaveFloors items (loaded s place ls)
floors_loaded items s place [] h = tt
floors_loaded items s place (l ∷ ls) h = elim (s == l.sub) as
    (λ b. HaveFloors items (cond b (record l { cursor = Some place } ∷ ls) (l ∷ loaded s place ls)))
    [ true ↦ h | false ↦ (h.0, floors_loaded items s place ls h.1) ]

floors_advanced : (items : List Item) (s count : ℕ) (ls : List Live) → HaveFloors items ls → HaveFloors items (advanced s count ls)
floors_advanced items s count [] h = tt
floors_advanced items s count (l ∷ ls) h =
    elim (s == l.sub) as
    (λ b. HaveFloors items (cond b (record l { cursor = moved count l.cursor } ∷ ls) (l ∷ advanced s count ls)))
    [ true ↦ h | false ↦ (h.0, floors_advanced items s count ls h.1) ]

floors_closed : (items : List Item) (s : ℕ) (ls : List Live) → HaveFloors items ls → HaveFloors items (closed s ls)
floors_closed items s [] h = tt
floors_closed items s (l ∷ ls) h = elim (s == l.sub) as
    (λ b. HaveFloors items (cond (not b) (l ∷ closed s ls) (closed s ls))) [ true ↦ floors_closed items s ls h.1 | false ↦ (h.0, floors_closed items s ls h.1) ]

floors_opened : (items : List Item) (ls : List Live) (l : Live) → HaveFloors items ls → HasFloor items l → HaveFloors items (ls ++ l ∷ [])
floors_opened items [] l h one = (one, tt)
floors_opened items (x ∷ ls) l h one = (h.0, floors_opened items ls l h.1 one)

-- ---- over a journal

next_reach : (st : State) (items : List Item) (i : Item) → KnowsFloors st items → (after st i).reach ≡ reach_from [] (items ++ i ∷ [])
next_reach st items i k = here i ∙ sym (reach-append [] items i)
  where
    here : (i : Item) → (after st i).reach ≡ max (reach_from [] items) (place_by items i)
    here (item.load s place) = omega (arith, k.reach)
    here (item.advance s count) = omega (arith, k.reach, ap or_zero (k.tracks.cursors s))
    here (item.finished j place) = omega (arith, k.reach)
    here i = omega (arith, k.reach)

next_floors : (app : App) (number : ℕ) (C : List Moment) (st : State) (items : List Item) (i : Item) → KnowsFloors st items →
    CanFollow app number C st i → HaveFloors (items ++ i ∷ []) (after st i).subs
next_floors app number C st items (item.load s place) k f =
    let i = item.load s place in floors_loaded (items ++ i ∷ []) s place st.subs (floors_stay items i st.subs k.floors)
next_floors app number C st items (item.advance s count) k f =
    let i = item.advance s count in floors_advanced (items ++ i ∷ []) s count st.subs (floors_stay items i st.subs k.floors)
next_floors app number C st items (item.close s message) k f =
    let i = item.close s message in floors_closed (items ++ i ∷ []) s st.subs (floors_stay items i st.subs k.floors)
next_floors app number C st items (item.subscribe s message cursors) k f =
    let i = item.subscribe s message cursors in
    let none : is_opened s items ≡ false = k.fresh s (omega (arith, (open_is app number st message s message cursors f.made).number)) in
    let here : opens s i ≡ true = eq-eqb s s refl in
    floors_opened (items ++ i ∷ []) st.subs (opening st s message cursors) (floors_stay items i st.subs k.floors)
    (opened-append s items i ∙ ap₂ (λ a b. a || b) none here, k.reach ∙ sym (ap (reach_from []) (before_first s items i none here)))
next_floors app number C st items i k f = floors_stay items i st.subs k.floors

next_fresh : (app : App) (number : ℕ) (C : List Moment) (st : State) (items : List Item) (i : Item) → KnowsFloors st items →
    CanFollow app number C st i → (s : ℕ) → (after st i).opened ≤ s → is_opened s (items ++ i ∷ []) ≡ false
next_fresh app number C st items i k f s le = opened-append s items i ∙ here i f le
  where
    old : st.opened ≤ s → (is_opened s items || false) ≡ false
    old le = ap (λ b. b || false) (k.fresh s le)

    here : (i : Item) → CanFollow app number C st i → (after st i).opened ≤ s → (is_opened s items || opens s i) ≡ false
    here (item.subscribe r message cursors) f le =
        let n = (open_is app number st message r message cursors f.made).number in
        ap₂ (λ a b. a || b) (k.fresh s (omega (arith, le))) (ne_eqb s r (λ e. omega (arith, e, le, n)))
    here i f le = old le

floors_from : (app : App) (number : ℕ) (C : List Moment) (st : State) (before items : List Item) → KnowsFloors st before →
    FitsFrom app number C st items → KnowsFloors (state_from st items) (before ++ items)
floors_from app number C st before [] k f = subst (KnowsFloors st) (sym (append-nil before)) k
floors_from app number C st before (i ∷ items) k f =
    subst (KnowsFloors (state_from (after st i) items)) (append_assoc before (i ∷ []) items)
    (floors_from app number C (after st i) (before ++ i ∷ []) items (record {
      tracks = tracks_after st before k.tracks app number C i f.0;
      reach = next_reach st before i k;
      floors = next_floors app number C st before i k f.0;
      fresh = next_fresh app number C st before i k f.0;
    }) f.1)

only_floors : (items : List Item) (ls : List Live) → HaveFloors items ls → AreFloors items ls
only_floors items [] h = tt
only_floors items (l ∷ ls) h = (h.0.1, only_floors items ls h.1)

-- Each live subscription has the floor that its journal says.
pub floor_looks_back : (app : App) (number : ℕ) (C : List Moment) (items : List Item) → Fits app number C items → AreFloors items (state_of items).subs
floor_looks_back app number C items f =
    only_floors items (state_of items).subs
    (floors_from app number C started [] items (record { tracks = tracks_first; reach = refl; floors = tt; fresh = λ s le. refl }) f).floors
