-- The fences that stay armed are those of the calls that are still to be told.
use Rattle.std.specs.Prelude.{◌≡◌, ℕ, zero, suc, nat_le, List, [], ◌∷◌, ◌++◌, Bool, true, false, cond, not, ◌&&◌, ◌||◌, Option, Some, None, is_none}
use Rattle.std.specs.Prelude.{option_and_then, refl}
use Rattle.std.proofs.Common.{ap, sym, subst, ◌∙◌, arith}
use Rattle.std.specs.Ordering.{nat_cmp, eq_by_cmp}
use Rattle.std.proofs.lemmas.Bool.{le-leb, leb-true, leb-false}
use Rattle.std.proofs.lemmas.Cmp.{nat_cmp_total}
use Rattle.std.proofs.lemmas.Map.Lookups.{exact_unsigned}
use Rattle.std.proofs.lemmas.Map.Entries.{option_filter}
use Rattle.map_model.specs.Maps.{at, set, IsSorted, IsKeyOrder}
use Rattle.map_model.specs.MapLaws.{at-set, at-filter, sorted-set, key_is, eq_by_cmp-self}
use Rattle.app_model.specs.App.{App}
use Rattle.session_model.specs.Items.{Item, id_of}
use Rattle.session_model.specs.Items as item
use Rattle.session_model.specs.State.{State, own_after, after}
use Rattle.session_model.specs.Moments.{Moment}
use Rattle.session_model.specs.Fits.{CanFollow}
use Rattle.session_model.specs.Subscriptions.{Live, past, is_open}
use Rattle.session_model.specs.Methods.{Phase, running, refused, finished, told, Method, phase_at, turned, fired, fire}
use Rattle.session_journal_laws.specs.Blocking.{BlocksLast}
use Rattle.session_journal_laws.specs.BlockingLaws.{turned_here, turned_other, refused_runs}
use Rattle.session_journal_laws.specs.Fired.{Armed, is_reached, unfired, lesser, least_with, is_opening, armed_with}
use Rattle.session_journal_laws.specs.Stands.{end_of, armed_at}

pub number_order : IsKeyOrder nat_cmp
number_order = record { total = nat_cmp_total; exact = exact_unsigned }

lesser_past : (c d place : ℕ) → is_reached (lesser (Some c) (Some d)) place ≡ (nat_le place c && nat_le place d)
lesser_past c d place = elim (nat_le c d) as (λ b. nat_le c d ≡ b → is_reached (cond b (Some c) (Some d)) place ≡ (nat_le place c && nat_le place d)) [
  | true ↦ λ le. elim (nat_le place c) as (λ b. nat_le place c ≡ b → b ≡ (b && nat_le place d)) [
    | true ↦ λ h. sym (le-leb place d (omega (arith, leb-true place c h, leb-true c d le)))
    | false ↦ λ h. refl
  ] refl
  | false ↦ λ gt. elim (nat_le place d) as (λ b. nat_le place d ≡ b → b ≡ (nat_le place c && b)) [
    | true ↦ λ h. sym (ap (λ x. x && true) (le-leb place c (omega (arith, leb-true place d h, leb-false c d gt))))
    | false ↦ λ h. elim (nat_le place c) as (λ x. false ≡ (x && false)) [ true ↦ refl | false ↦ refl ]
  ] refl
] refl

lesser_is : (o : Option ℕ) (c place : ℕ) → is_reached (lesser o (Some c)) place ≡ (is_reached o place && nat_le place c)
lesser_is None c place = refl
lesser_is (Some d) c place = lesser_past d c place

assoc : (a b c : Bool) → (a && (b && c)) ≡ ((a && b) && c)
assoc true b c = refl
assoc false b c = refl

with_true : (a : Bool) → (a && true) ≡ a
with_true true = refl
with_true false = refl

with_false : (a : Bool) → (a && false) ≡ false
with_false true = refl
with_false false = refl

open_with : (place : ℕ) (o : Option ℕ) (ls : List Live) → (is_reached o place && is_open place ls) ≡ (not (is_opening ls) && is_reached (least_with o ls) place)
open_with place o [] = with_true (is_reached o place)
open_with place o (l ∷ ls) = by (λ a. open_with place a ls) l.cursor refl
  where
    by : ((a : Option ℕ) → (is_reached a place && is_open place ls) ≡ (not (is_opening ls) && is_reached (least_with a ls) place)) → (c : Option ℕ) →
        l.cursor ≡ c → (is_reached o place && (past place l.cursor && is_open place ls)) ≡
        (not (is_none l.cursor || is_opening ls) && is_reached (least_with (lesser o l.cursor) ls) place)
    by rest None e = subst
        (λ c. (is_reached o place && (past place c && is_open place ls))
        ≡ (not (is_none c || is_opening ls) && is_reached (least_with (lesser o c) ls) place)) (sym e) (with_false (is_reached o place))
    by rest (Some n) e = subst
        (λ c. (is_reached o place && (past place c && is_open place ls))
        ≡ (not (is_none c || is_opening ls) && is_reached (least_with (lesser o c) ls) place)) (sym e)
        (assoc (is_reached o place) (nat_le place n) (is_open place ls)
        ∙ (ap (λ b. b && is_open place ls) (sym (lesser_is o n place)) ∙ rest (lesser o (Some n))))

pub open_is : (place : ℕ) (ls : List Live) → is_open place ls ≡ (not (is_opening ls) && is_reached (least_with None ls) place)
open_is place ls = open_with place None ls

module _ (ls : List Live) where
  abbrev pub stays : ℕ → Bool
  stays n = not (not (is_opening ls) && is_reached (least_with None ls) n)

  fired_end : (p : Phase) → option_filter stays (end_of p) ≡ end_of (fired ls p)
  fired_end (finished n) = ap (λ b. cond (not b) (Some n) None) (sym (open_is n ls))
      ∙ elim (is_open n ls) as (λ b. cond (not b) (Some n) None ≡ end_of (cond b (told n) (finished n))) [ true ↦ refl | false ↦ refl ]
  fired_end p = refl

  fire_end : (k : ℕ) (ms : List Method) → option_filter stays (armed_at k ms) ≡ armed_at k (fire ls ms)
  fire_end k [] = refl
  fire_end zero (m ∷ ms) = fired_end m.phase
  fire_end (suc k) (m ∷ ms) = fire_end k ms

  pub fired_armed : (armed : Armed) (ms : List Method) → IsSorted nat_cmp armed → ((k : ℕ) → at nat_cmp armed k ≡ armed_at k ms) → (k : ℕ) →
      at nat_cmp (unfired (is_opening ls) (least_with None ls) armed) k ≡ armed_at k (fire ls ms)
  fired_armed armed ms s h k = at-filter number_order (λ (e : ℕ × ℕ). stays e.1) armed k s ∙ (ap (option_filter stays) (h k) ∙ fire_end k ms)

pub turned_armed : (armed : Armed) (n end : ℕ) (q : Phase) (ms : List Method) → IsSorted nat_cmp armed →
    ((k : ℕ) → at nat_cmp armed k ≡ armed_at k ms) → phase_at n ms ≡ Some q →
    (k : ℕ) → at nat_cmp (set nat_cmp armed n (Some end)) k ≡ armed_at k (turned n (finished end) ms)
turned_armed armed n end q ms s h there k =
    at-set number_order armed n (Some end) k s
    ∙ elim (eq_by_cmp nat_cmp k n) as (λ b. eq_by_cmp nat_cmp k n ≡ b → cond b (Some end) (at nat_cmp armed k) ≡ armed_at k (turned n (finished end) ms)) [
      | true ↦ λ e. sym
          (ap (λ x. armed_at x (turned n (finished end) ms)) (key_is number_order k n e)
          ∙ ap (option_and_then end_of) (turned_here n (finished end) q ms there))
      | false ↦ λ e. h k
          ∙ sym (ap (option_and_then end_of) (turned_other k n (finished end) ms
          (λ same. differ (sym (eq_by_cmp-self number_order n) ∙ (ap (λ x. eq_by_cmp nat_cmp x n) (sym same) ∙ e)))))
    ] refl
  where
    differ : true ≡ false → ⊥
    differ e = cc e

pub called_armed : (k : ℕ) (ms : List Method) (id : List ℕ) → armed_at k ms ≡ armed_at k (ms ++ record { id = id; phase = running } ∷ [])
called_armed zero [] id = refl
called_armed (suc k) [] id = refl
called_armed zero (m ∷ ms) id = refl
called_armed (suc k) (m ∷ ms) id = called_armed k ms id

pub refused_armed : (k n : ℕ) (ms : List Method) → phase_at n ms ≡ Some running → armed_at k (turned n refused ms) ≡ armed_at k ms
refused_armed k n [] e = refl
refused_armed zero zero (m ∷ ms) e = let was : m.phase ≡ running = cc e in sym (ap end_of was)
refused_armed (suc k) zero (m ∷ ms) e = refl
refused_armed zero (suc n) (m ∷ ms) e = refl
refused_armed (suc k) (suc n) (m ∷ ms) e = refused_armed k n ms e

-- ---- over an item

armed_own : (app : App) (number : ℕ) (C : List Moment) (st : State) (i : Item) (armed : Armed) → IsSorted nat_cmp armed →
    ((k : ℕ) → at nat_cmp armed k ≡ armed_at k st.methods) → CanFollow app number C st i → BlocksLast st →
    (k : ℕ) → at nat_cmp (armed_with i armed) k ≡ armed_at k (own_after st i).methods
armed_own app number C st (item.finished n place) armed s h f l k = turned_armed armed n place running st.methods s h f.0 k
armed_own app number C st (item.refused n place) armed s h f l k = h k ∙ sym (refused_armed k n st.methods (refused_runs C st n place f l))
armed_own app number C st (item.call n message seed) armed s h f l k = h k ∙ called_armed k st.methods (id_of message)
armed_own app number C st i armed s h f l k = h k

sorted_with : (i : Item) (armed : Armed) → IsSorted nat_cmp armed → IsSorted nat_cmp (armed_with i armed)
sorted_with (item.finished n place) armed s = sorted-set number_order armed n (Some place) s
sorted_with i armed s = s

-- where a fence was armed for each finished call that is to be told, that is so after the item, once those that are open have fired
pub armed_after : (app : App) (number : ℕ) (C : List Moment) (st : State) (i : Item) (armed : Armed) → IsSorted nat_cmp armed →
    ((k : ℕ) → at nat_cmp armed k ≡ armed_at k st.methods) → CanFollow app number C st i → BlocksLast st →
    let ls = (own_after st i).subs in (k : ℕ) →
    at nat_cmp (unfired (is_opening ls) (least_with None ls) (armed_with i armed)) k ≡ armed_at k (after st i).methods
armed_after app number C st i armed s h f l k =
    let own = own_after st i in fired_armed own.subs (armed_with i armed) own.methods (sorted_with i armed s) (armed_own app number C st i armed s h f l) k
