-- No more methods are told `updated` than have their writes shown.
use Rattle.std.specs.Prelude.{◌≡◌, ◌⊎◌, ℕ, zero, suc, ◌+◌, ◌≤◌, ◌==◌, List, [], ◌∷◌, ◌++◌, length, drop, Bool, true, false, cond, not, ◌||◌, Option}
use Rattle.std.specs.Prelude.{Some, None, option_map, refl}
use Rattle.std.proofs.Common.{ap, ap₂, sym, subst, ◌∙◌, arith, inl, inr}
use Rattle.std.proofs.lemmas.Bool.{le-ltb, eq-eqb}
use Rattle.value_model.specs.Size.{is_name}
use Rattle.app_model.specs.App.{App}
use Rattle.session_model.specs.Items.{Item, id_of}
use Rattle.session_model.specs.Items as item
use Rattle.session_model.specs.Subscriptions.{Live, cursor_of, is_open}
use Rattle.session_model.specs.Methods.{Phase, running, refused, finished, told, Method, phase_at, id_at, turned, fired, fire}
use Rattle.session_model.specs.State.{State, started, own_after, after, state_from, state_of}
use Rattle.session_model.specs.Moments.{Moment}
use Rattle.session_model.specs.Out.{out}
use Rattle.session_model.specs.Fits.{CanFollow, FitsFrom, Fits}
use Rattle.session_model.specs.Counting.{one_if, updateds, method_by, methods_handled, is_running, is_armed, in_phase, number_in}
use Rattle.session_model.specs.CaughtUp.{far, AreFar, IsShown, AreShown}
use Rattle.session_model.specs.LooksBack.{opened_in, cursor_in, refuses, is_refused_in, finished_at}
use Rattle.session_model.specs.Reflected.{is_behind, is_one_behind, is_reflected_at, is_reflected, reflected_by, reflected_among, methods_reflected}
use Rattle.session_journal_laws.specs.BlockingLaws.{turned_length, fire_length, turned_other, phase_fired, call_number}
use Rattle.session_journal_laws.specs.CountsLaws.{methods_are_answered}
use Rattle.session_journal_laws.specs.FencesLaws.{caught_up}
use Rattle.session_journal_laws.specs.TrackingLaws.{tracks}
use Rattle.session_journal_laws.specs.Told.{Says}
use Rattle.session_journal_laws.specs.ToldLaws.{says}

or_left : (a b : Bool) → a ≡ true → (a || b) ≡ true
or_left true b e = refl
or_left false b e = cc e

or_right : (a b : Bool) → b ≡ true → (a || b) ≡ true
or_right true b e = refl
or_right false b e = e

-- ---- a refused call has its item

called_refused : (k : ℕ) (ms : List Method) (id : List ℕ) → phase_at k (ms ++ record { id = id; phase = running } ∷ []) ≡ Some refused →
    phase_at k ms ≡ Some refused
called_refused zero [] id e = cc e
called_refused (suc k) [] id e = cc e
called_refused zero (m ∷ ms) id e = e
called_refused (suc k) (m ∷ ms) id e = called_refused k ms id e

ended_refused : (k j place : ℕ) (ms : List Method) → phase_at k (turned j (finished place) ms) ≡ Some refused → phase_at k ms ≡ Some refused
ended_refused k j place [] e = cc e
ended_refused zero zero place (m ∷ ms) e = cc e
ended_refused zero (suc j) place (m ∷ ms) e = e
ended_refused (suc k) zero place (m ∷ ms) e = e
ended_refused (suc k) (suc j) place (m ∷ ms) e = ended_refused k j place ms e

fired_refused : (ls : List Live) (o : Option Phase) → option_map (fired ls) o ≡ Some refused → o ≡ Some refused
fired_refused ls None e = cc e
fired_refused ls (Some running) e = cc e
fired_refused ls (Some refused) e = refl
fired_refused ls (Some (told place)) e = cc e
fired_refused ls (Some (finished place)) e = elim (is_open place ls) as
    (λ b. Some (cond b (told place) (finished place)) ≡ Some refused → Some (finished place) ≡ Some refused) [ true ↦ λ f. absurd (cc f) | false ↦ λ f. f ] e

own_refused : (st : State) (i : Item) (k : ℕ) → phase_at k (own_after st i).methods ≡ Some refused →
    (phase_at k st.methods ≡ Some refused) ⊎ (refuses k i ≡ true)
own_refused st (item.call j message seed) k e = inl (called_refused k st.methods (id_of message) e)
own_refused st (item.refused j place) k e =
    elim (k == j) as (λ b. k == j ≡ b → (phase_at k st.methods ≡ Some refused) ⊎ (b ≡ true)) [
      | true ↦ λ is. inr refl
      | false ↦ λ is. inl (sym (turned_other k j refused st.methods (λ same. differ (sym (eq-eqb k j same) ∙ is))) ∙ e)
    ] refl
  where
    differ : true ≡ false → ⊥
    differ e = cc e
own_refused st (item.finished j place) k e = inl (ended_refused k j place st.methods e)
own_refused st i k e = inl e

refused_from : (st : State) (items : List Item) (k : ℕ) → phase_at k (state_from st items).methods ≡ Some refused →
    (phase_at k st.methods ≡ Some refused) ⊎ (is_refused_in items k ≡ true)
refused_from st [] k e = inl e
refused_from st (i ∷ items) k e = later (refused_from (after st i) items k e)
  where
    here : (phase_at k st.methods ≡ Some refused) ⊎ (refuses k i ≡ true) → (phase_at k st.methods ≡ Some refused) ⊎ (is_refused_in (i ∷ items) k ≡ true)
    here (inl was) = inl was
    here (inr is) = inr (or_left (refuses k i) (is_refused_in items k) is)

    later : (phase_at k (after st i).methods ≡ Some refused) ⊎ (is_refused_in items k ≡ true) →
        (phase_at k st.methods ≡ Some refused) ⊎ (is_refused_in (i ∷ items) k ≡ true)
    later (inr is) = inr (or_right (refuses k i) (is_refused_in items k) is)
    later (inl was) = let own = own_after st i in here
        (own_refused st i k (fired_refused own.subs (phase_at k own.methods) (sym (phase_fired own.subs k own.methods) ∙ was)))

-- ---- what is told is shown

not_behind : (place floor : ℕ) (o : Option ℕ) → place ≤ far o floor → is_behind place o ≡ false
not_behind place floor None le = refl
not_behind place floor (Some cursor) le = le-ltb cursor place le

far_not_behind : (place s : ℕ) (ls : List Live) → AreFar place ls → is_behind place (cursor_of s ls) ≡ false
far_not_behind place s [] a = refl
far_not_behind place s (l ∷ ls) a = elim (s == l.sub) as
    (λ b. is_behind place (cond b l.cursor (cursor_of s ls)) ≡ false) [ true ↦ not_behind place l.floor l.cursor a.0 | false ↦ far_not_behind place s ls a.1 ]

none_behind : (place n : ℕ) (items : List Item) → ((s : ℕ) → is_behind place (cursor_in s items) ≡ false) → is_one_behind place n items ≡ false
none_behind place zero items h = refl
none_behind place (suc n) items h = ap₂ (λ a b. a || b) (h n) (none_behind place n items h)

shown_there : (ls : List Live) (k place : ℕ) (ms : List Method) → AreShown ls ms → phase_at k ms ≡ Some (told place) → AreFar place ls
shown_there ls k place [] a e = cc e
shown_there ls zero place (m ∷ ms) a e = let same : m.phase ≡ told place = cc e in subst (IsShown ls) same a.0
shown_there ls (suc k) place (m ∷ ms) a e = shown_there ls k place ms a.1 e

-- it is neither running nor waiting for its fence
abbrev waits : Phase → Bool
waits p = is_running p || is_armed p

module _ (app : App) (number : ℕ) (C : List Moment) (items : List Item) (f : Fits app number C items) where
  abbrev all : List Method
  all = (state_of items).methods

  told_reflected : (k place : ℕ) → phase_at k all ≡ Some (told place) → is_reflected k items ≡ true
  told_reflected k place e =
      let ended : finished_at k items ≡ Some place = (subst (Says k items) e (says app number C items f k)).0 in
      let t = tracks app number C items f in
      let there = shown_there (state_of items).subs k place all (caught_up app number C items f) e in
      let shown : is_one_behind place (opened_in items) items ≡ false =
      none_behind place (opened_in items) items (λ s. ap (is_behind place) (sym (t.cursors s)) ∙ far_not_behind place s (state_of items).subs there) in
      or_right (is_refused_in items k) (is_reflected_at (finished_at k items) items) (ap (λ o. is_reflected_at o items) ended ∙ ap not shown)

  ended_reflected : (k : ℕ) (p : Phase) → phase_at k all ≡ Some p → waits p ≡ false → is_reflected k items ≡ true
  ended_reflected k running e w = cc w
  ended_reflected k (finished place) e w = cc w
  ended_reflected k (told place) e w = told_reflected k place e
  ended_reflected k refused e w = by (refused_from started items k e)
    where
      by : (phase_at k started.methods ≡ Some refused) ⊎ (is_refused_in items k ≡ true) → is_reflected k items ≡ true
      by (inl was) = cc was
      by (inr is) = or_left (is_refused_in items k) (is_reflected_at (finished_at k items) items) is

-- ---- a call keeps its id

id_called : (k : ℕ) (x : List ℕ) (ms : List Method) (m : Method) → id_at k ms ≡ x ∷ [] → id_at k (ms ++ m ∷ []) ≡ x ∷ []
id_called k x [] m e = cc e
id_called zero x (y ∷ ms) m e = e
id_called (suc k) x (y ∷ ms) m e = id_called k x ms m e

id_turned : (k j : ℕ) (p : Phase) (ms : List Method) → id_at k (turned j p ms) ≡ id_at k ms
id_turned k j p [] = refl
id_turned zero zero p (m ∷ ms) = refl
id_turned zero (suc j) p (m ∷ ms) = refl
id_turned (suc k) zero p (m ∷ ms) = refl
id_turned (suc k) (suc j) p (m ∷ ms) = id_turned k j p ms

id_fired : (k : ℕ) (ls : List Live) (ms : List Method) → id_at k (fire ls ms) ≡ id_at k ms
id_fired k ls [] = refl
id_fired zero ls (m ∷ ms) = refl
id_fired (suc k) ls (m ∷ ms) = id_fired k ls ms

id_new : (ms : List Method) (m : Method) → id_at (length ms) (ms ++ m ∷ []) ≡ m.id ∷ []
id_new [] m = refl
id_new (x ∷ ms) m = id_new ms m

id_own : (st : State) (i : Item) (k : ℕ) (x : List ℕ) → id_at k st.methods ≡ x ∷ [] → id_at k (own_after st i).methods ≡ x ∷ []
id_own st (item.call j message seed) k x e = id_called k x st.methods (record { id = id_of message; phase = running }) e
id_own st (item.refused j place) k x e = id_turned k j refused st.methods ∙ e
id_own st (item.finished j place) k x e = id_turned k j (finished place) st.methods ∙ e
id_own st i k x e = e

id_from : (st : State) (items : List Item) (k : ℕ) (x : List ℕ) → id_at k st.methods ≡ x ∷ [] → id_at k (state_from st items).methods ≡ x ∷ []
id_from st [] k x e = e
id_from st (i ∷ items) k x e = let own = own_after st i in id_from (after st i) items k x (id_fired k own.subs own.methods ∙ id_own st i k x e)

-- the call of this number and with this id
record IsCall (n : ℕ) (id : List ℕ) (ms : List Method) : Type 0 where
  pub method : Method
  pub first : drop n ms ≡ method ∷ drop (suc n) ms
  pub id_is : method.id ≡ id
  pub phase_is : phase_at n ms ≡ Some method.phase

call_there : (n : ℕ) (id : List ℕ) (ms : List Method) → id_at n ms ≡ id ∷ [] → IsCall n id ms
call_there n id [] e = cc e
call_there zero id (m ∷ ms) e = record { method = m; first = refl; id_is = cc e; phase_is = refl }
call_there (suc n) id (m ∷ ms) e = let c = call_there n id ms e in record { method = c.method; first = c.first; id_is = c.id_is; phase_is = c.phase_is }

-- ---- counting

waits_one : (p : Phase) (n : ℕ) → cond (waits p) n 0 ≡ cond (is_running p) n 0 + cond (is_armed p) n 0
waits_one running n = omega arith
waits_one refused n = refl
waits_one (finished place) n = omega arith
waits_one (told place) n = refl

waits_all : (id : List ℕ) (ms : List Method) → number_in waits id ms ≡ number_in is_running id ms + number_in is_armed id ms
waits_all id [] = refl
waits_all id (m ∷ ms) = omega (arith, waits_one m.phase (one_if (is_name id m.id)), waits_all id ms)

module _ (app : App) (number : ℕ) (C : List Moment) (id : List ℕ) (whole : List Item) (ms : List Method)
    (ends : (k : ℕ) (p : Phase) → phase_at k ms ≡ Some p → waits p ≡ false → is_reflected k whole ≡ true) where
  -- how many calls with this id wait, from this number on
  abbrev left : ℕ → ℕ
  left n = number_in waits id (drop n ms)

  called_left : (k : ℕ) (x : List ℕ) → id_at k ms ≡ x ∷ [] →
      one_if (is_name id x) + left (suc k) ≤ cond (is_reflected k whole) (one_if (is_name id x)) 0 + left k
  called_left k x e =
      let c = call_there k x ms e in
      let all : left k ≡ in_phase waits id c.method + left (suc k) = ap (number_in waits id) c.first in
      omega (arith, all, one c (waits c.method.phase) refl)
    where
      one : (c : IsCall k x ms) (b : Bool) → waits c.method.phase ≡ b →
          one_if (is_name id x) ≤ cond (is_reflected k whole) (one_if (is_name id x)) 0 + in_phase waits id c.method
      one c true w =
          let here : in_phase waits id c.method ≡ one_if (is_name id x) = ap₂ (λ b y. cond b (one_if (is_name id y)) 0) w c.id_is in omega (arith, here)
      one c false w =
          let there : cond (is_reflected k whole) (one_if (is_name id x)) 0 ≡ one_if (is_name id x) =
          ap (λ b. cond b (one_if (is_name id x)) 0) (ends k c.method.phase c.phase_is w) in omega (arith, there)

  same_left : (n m : ℕ) → n ≡ m → left n ≡ left m
  same_left n m e = ap left e

  step_left : (st : State) (i : Item) → CanFollow app number C st i → ((k : ℕ) (x : List ℕ) → id_at k (after st i).methods ≡ x ∷ [] → id_at k ms ≡ x ∷ []) →
      method_by id i + left (length (after st i).methods) ≤ reflected_by id whole i + left (length st.methods)
  step_left st (item.call k message seed) f keeps =
      let m : Method = record { id = id_of message; phase = running } in
      let new = st.methods ++ m ∷ [] in
      let next : k ≡ length st.methods = call_number app number st message k message seed f.made in
      let id_is : id_at k ms ≡ id_of message ∷ [] = keeps k (id_of message) (id_fired k st.subs new ∙ (ap (λ n. id_at n new) next ∙ id_new st.methods m)) in
      let longer : left (length (fire st.subs new)) ≡ left (suc k) =
      same_left (length (fire st.subs new)) (suc k) (fire_length st.subs new ∙ (grown st.methods m ∙ ap suc (sym next))) in
      omega (arith, called_left k (id_of message) id_is, longer, same_left k (length st.methods) next)
    where
      grown : (ms : List Method) (m : Method) → length (ms ++ m ∷ []) ≡ suc (length ms)
      grown [] m = refl
      grown (x ∷ ms) m = ap suc (grown ms m)
  step_left st (item.refused j place) f keeps =
      let own = own_after st (item.refused j place) in
      omega (arith, same_left (length (fire own.subs own.methods)) (length st.methods) (fire_length own.subs own.methods ∙ turned_length j refused st.methods))
  step_left st (item.finished j place) f keeps =
      let own = own_after st (item.finished j place) in
      omega (
        arith,
        same_left (length (fire own.subs own.methods)) (length st.methods)
            (fire_length own.subs own.methods ∙ turned_length j (finished place) st.methods),
      )
  step_left st i f keeps = let own = own_after st i in omega
      (arith, same_left (length (fire own.subs own.methods)) (length st.methods) (fire_length own.subs own.methods))

  all_left : (st : State) (items : List Item) → FitsFrom app number C st items → (state_from st items).methods ≡ ms →
      methods_handled id items ≤ reflected_among id whole items + left (length st.methods)
  all_left st [] f e = omega arith
  all_left st (i ∷ items) f e =
      let keeps = λ (k : ℕ) (x : List ℕ) (is : id_at k (after st i).methods ≡ x ∷ []). ap (id_at k) (sym e) ∙ id_from (after st i) items k x is in
      omega (arith, step_left st i f.0 keeps, all_left (after st i) items f.1 e)

-- At each beginning of a journal, and so at each time: of the methods with an id no more are told `updated` than have their writes shown.
pub updated_is_reflected : (app : App) (number : ℕ) (C : List Moment) (items : List Item) → Fits app number C items → (id : List ℕ) →
    updateds id (out C number items) ≤ methods_reflected id items
updated_is_reflected app number C items f id =
    let ms = (state_of items).methods in
    let counts = methods_are_answered app number C items f id in
    omega (arith, counts.0, counts.1, all_left app number C id items ms (ended_reflected app number C items f) started items f refl, waits_all id ms)
