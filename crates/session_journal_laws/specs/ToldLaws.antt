-- Laws: A call is told `updated` with the item after which its fence is open for the first time.
use Rattle.std.specs.Prelude.{◌≡◌, ◌⊎◌, ◌↔◌, ℕ, zero, suc, ◌≤◌, ◌<◌, ◌==◌, nat_lt, List, [], ◌∷◌, ◌++◌, length, take, Bool, true, false, cond, not}
use Rattle.std.specs.Prelude.{◌&&◌, Option, Some, None, option_map, refl}
use Rattle.std.proofs.Common.{ap, ap₂, sym, subst, ◌∙◌, arith, inl, inr, append-nil, eq-or-lt_of_le}
use Rattle.std.proofs.lemmas.List.{append_assoc, length-append}
use Rattle.std.proofs.lemmas.Bool.{lt-ltb, ltb-true, eqb-true, eq-eqb, and_parts}
use Rattle.std.specs.Option.{option_or}
use Rattle.app_model.specs.App.{App}
use Rattle.session_model.specs.Items.{Item, id_of}
use Rattle.session_model.specs.Items as item
use Rattle.session_model.specs.Subscriptions.{Live, is_live, cursor_of, past, is_open}
use Rattle.session_model.specs.Methods.{Phase, running, refused, finished, told, Method, phase_at, turned, fired}
use Rattle.session_model.specs.State.{State, started, own_after, after, state_from, state_of}
use Rattle.session_model.specs.Moments.{Moment}
use Rattle.session_model.specs.Fits.{CanFollow, FitsFrom, Fits}
use Rattle.session_model.specs.LooksBack.{is_closed, finish_by, finished_at, IsFenceOpen, WasFenceOpen}
use Rattle.session_journal_laws.specs.Blocking.{BlocksLast}
use Rattle.session_journal_laws.specs.BlockingLaws.{turned_here, turned_other, phase_fired, last_after, refused_runs}
use Rattle.session_journal_laws.specs.Tracking.{AreDistinct, Tracks}
use Rattle.session_journal_laws.specs.TrackingLaws.{tracks_first, tracks_after}
use Rattle.session_journal_laws.specs.Told.{KnowsFences, Says, SaysOwn, is_told}

-- ---- a fence is open where each live subscription is far

open_each : (place : ℕ) (ls : List Live) → is_open place ls ≡ true → (s : ℕ) → is_live s ls ≡ true → past place (cursor_of s ls) ≡ true
open_each place [] e s live = cc live
open_each place (l ∷ ls) e s live =
    let p = and_parts (past place l.cursor) (is_open place ls) e in
    elim (s == l.sub) as
    (λ b. cond b true (is_live s ls) ≡ true → past place (cond b l.cursor (cursor_of s ls)) ≡ true)
    [ true ↦ λ is. p.0 | false ↦ λ is. open_each place ls p.1 s is ] live

each_open : (place : ℕ) (ls : List Live) → AreDistinct ls → ((s : ℕ) → is_live s ls ≡ true → past place (cursor_of s ls) ≡ true) → is_open place ls ≡ true
each_open place [] d all = refl
each_open place (l ∷ ls) d all =
    let self : (l.sub == l.sub) ≡ true = eq-eqb l.sub l.sub refl in
    let first : past place l.cursor ≡ true = ap (λ b. past place (cond b l.cursor (cursor_of l.sub ls))) (sym self)
    ∙ all l.sub (ap (λ b. cond b true (is_live l.sub ls)) self) in
    let rest : is_open place ls ≡ true = each_open place ls d.1 (λ s live.
    elim (s == l.sub) as (λ b. s == l.sub ≡ b → past place (cursor_of s ls) ≡ true) [
      | true ↦ λ is. absurd (differ (sym live ∙ (ap (λ x. is_live x ls) (eqb-true s l.sub is) ∙ d.0)))
      | false ↦ λ is. ap (λ b. past place (cond b l.cursor (cursor_of s ls))) (sym is) ∙ all s (ap (λ b. cond b true (is_live s ls)) is ∙ live)
    ] refl) in
    ap₂ (λ a b. a && b) first rest
  where
    differ : true ≡ false → ⊥
    differ e = cc e

module _ (st : State) (items : List Item) (t : Tracks st items) where
  fence_to : (k place : ℕ) → finished_at k items ≡ Some place → is_open place st.subs ≡ true → IsFenceOpen k items
  fence_to k place is e = record {
    place = place;
    finished = is;
    shown = λ s below not_closed.
        let live : is_live s st.subs ≡ true = t.live s ∙ ap₂ (λ a b. a && not b) (lt-ltb s st.opened (subst (λ n. s < n) (sym t.opened) below)) not_closed in
        ap (past place) (sym (t.cursors s)) ∙ open_each place st.subs e s live;
  }

  fence_from : (k place : ℕ) → finished_at k items ≡ Some place → IsFenceOpen k items → is_open place st.subs ≡ true
  fence_from k place is f =
      let same : f.place ≡ place = some_is (sym f.finished ∙ is) in
      each_open place st.subs t.distinct (λ s live.
      let p = and_parts (nat_lt s st.opened) (not (is_closed s items)) (sym (t.live s) ∙ live) in
      subst (λ n. past n (cursor_of s st.subs) ≡ true) same
      (ap (past f.place) (t.cursors s) ∙ f.shown s (subst (λ n. s < n) t.opened (below s p.0)) (negated (is_closed s items) p.1)))
    where
      some_is : {a b : ℕ} → Some a ≡ Some b → a ≡ b
      some_is e = cc e

      below : (s : ℕ) → nat_lt s st.opened ≡ true → s < st.opened
      below s e = ltb-true s st.opened e

      negated : (b : Bool) → not b ≡ true → b ≡ false
      negated true e = cc e
      negated false e = refl

-- ---- one item at the end

first_assoc : (a b c : Option ℕ) → option_or a (option_or b c) ≡ option_or (option_or a b) c
first_assoc None b c = refl
first_assoc (Some n) b c = refl

or_none : (o : Option ℕ) → option_or o None ≡ o
or_none None = refl
or_none (Some n) = refl

finished-append : (k : ℕ) (items : List Item) (i : Item) → finished_at k (items ++ i ∷ []) ≡ option_or (finished_at k items) (finish_by k i)
finished-append k [] i = or_none (finish_by k i)
finished-append k (j ∷ items) i = ap (option_or (finish_by k j)) (finished-append k items i) ∙ first_assoc (finish_by k j) (finished_at k items) (finish_by k i)

finished_take : (k n : ℕ) (items : List Item) → finished_at k items ≡ None → finished_at k (take n items) ≡ None
finished_take k zero items e = refl
finished_take k (suc n) [] e = refl
finished_take k (suc n) (i ∷ items) e = by (λ h. finished_take k n items h) (finish_by k i) e
  where
    by : (finished_at k items ≡ None → finished_at k (take n items) ≡ None) → (o : Option ℕ) → option_or o (finished_at k items) ≡ None →
        option_or o (finished_at k (take n items)) ≡ None
    by rest None e = rest e
    by rest (Some p) e = cc e

never_open : (k : ℕ) (items : List Item) → finished_at k items ≡ None → WasFenceOpen k items → ⊥
never_open k items e w = none (sym (finished_take k w.time items e) ∙ w.there.finished)
  where
    none : {p : ℕ} → None ≡ Some p → ⊥
    none e = cc e

take_within : (n : ℕ) (xs ys : List Item) → n ≤ length xs → take n (xs ++ ys) ≡ take n xs
take_within zero xs ys h = refl
take_within (suc n) [] ys h = absurd (omega (arith, h))
take_within (suc n) (x ∷ xs) ys h = ap (λ zs. x ∷ zs) (take_within n xs ys (omega (arith, h)))

take_all : (n : ℕ) (xs : List Item) → length xs ≤ n → take n xs ≡ xs
take_all zero [] h = refl
take_all zero (x ∷ xs) h = absurd (omega (arith, h))
take_all (suc n) [] h = refl
take_all (suc n) (x ∷ xs) h = ap (λ zs. x ∷ zs) (take_all n xs (omega (arith, h)))

was_before : (k : ℕ) (items : List Item) (i : Item) → WasFenceOpen k items → WasFenceOpen k (items ++ i ∷ [])
was_before k items i w = record {
  time = w.time;
  within = omega (arith, w.within, length-append items (i ∷ []));
  there = subst (IsFenceOpen k) (sym (take_within w.time items (i ∷ []) w.within)) w.there;
}

was_now : (k : ℕ) (items : List Item) → IsFenceOpen k items → WasFenceOpen k items
was_now k items f = record { time = length items; within = omega arith; there = subst (IsFenceOpen k) (sym (take_all (length items) items (omega arith))) f }

was_either : (k : ℕ) (items : List Item) (i : Item) → WasFenceOpen k (items ++ i ∷ []) → WasFenceOpen k items ⊎ IsFenceOpen k (items ++ i ∷ [])
was_either k items i w = by (eq-or-lt_of_le w.within)
  where
    by : (w.time ≡ length (items ++ i ∷ [])) ⊎ (w.time < length (items ++ i ∷ [])) → WasFenceOpen k items ⊎ IsFenceOpen k (items ++ i ∷ [])
    by (inl e) = inr (subst (IsFenceOpen k) (take_all w.time (items ++ i ∷ []) (omega (arith, e))) w.there)
    by (inr less) =
        let within : w.time ≤ length items = omega (arith, less, length-append items (i ∷ [])) in
        inl (record { time = w.time; within = within; there = subst (IsFenceOpen k) (take_within w.time items (i ∷ []) within) w.there })

-- ---- what a call's phase says

fire_says : (st : State) (items : List Item) (i : Item) → Tracks st (items ++ i ∷ []) → (k : ℕ) (o : Option Phase) → SaysOwn k items i o →
    Says k (items ++ i ∷ []) (option_map (fired st.subs) o)
fire_says st items i t k None h = h
fire_says st items i t k (Some running) h = h
fire_says st items i t k (Some refused) h = h
fire_says st items i t k (Some (told place)) h = (h.0, was_before k items i h.1)
fire_says st items i t k (Some (finished place)) h =
    elim (is_open place st.subs) as (λ b. is_open place st.subs ≡ b → Says k (items ++ i ∷ []) (Some (cond b (told place) (finished place)))) [
      | true ↦ λ e. (h.0, was_now k (items ++ i ∷ []) (fence_to st (items ++ i ∷ []) t k place h.0 e))
      | false ↦ λ e. (h.0, λ w. not_open e (was_either k items i w))
    ] refl
  where
    differ : true ≡ false → ⊥
    differ e = cc e

    not_open : is_open place st.subs ≡ false → WasFenceOpen k items ⊎ IsFenceOpen k (items ++ i ∷ []) → ⊥
    not_open e (inl w) = h.1 w
    not_open e (inr f) = differ (sym (fence_from st (items ++ i ∷ []) t k place h.0 f) ∙ e)

-- an item that doesn't finish the call leaves what its phase says
stays : (k : ℕ) (items : List Item) (i : Item) → finish_by k i ≡ None → (o : Option Phase) → Says k items o → SaysOwn k items i o
stays k items i e o h = by (finished-append k items i ∙ (ap (option_or (finished_at k items)) e ∙ or_none (finished_at k items))) o h
  where
    by : finished_at k (items ++ i ∷ []) ≡ finished_at k items → (o : Option Phase) → Says k items o → SaysOwn k items i o
    by same None h = same ∙ h
    by same (Some running) h = same ∙ h
    by same (Some refused) h = same ∙ h
    by same (Some (finished place)) h = (same ∙ h.0, h.1)
    by same (Some (told place)) h = (same ∙ h.0, h.1)

called_says : (k j : ℕ) (items : List Item) (i : Item) (ms : List Method) (m : Method) → m.phase ≡ running → SaysOwn j items i (phase_at k ms) →
    SaysOwn j items i (phase_at k (ms ++ m ∷ []))
called_says zero j items i [] m e h = subst (λ p. SaysOwn j items i (Some p)) (sym e) h
called_says (suc k) j items i [] m e h = h
called_says zero j items i (x ∷ ms) m e h = h
called_says (suc k) j items i (x ∷ ms) m e h = called_says k j items i ms m e h

own_says : (app : App) (number : ℕ) (C : List Moment) (st : State) (items : List Item) (i : Item) → CanFollow app number C st i → BlocksLast st →
    KnowsFences st items → (k : ℕ) → SaysOwn k items i (phase_at k (own_after st i).methods)
own_says app number C st items (item.call j message seed) f l h k =
    called_says k k items _ st.methods (record { id = id_of message; phase = running }) refl (stays k items _ refl (phase_at k st.methods) (h k))
own_says app number C st items (item.refused j place) f l h k =
    elim (k == j) as (λ b. k == j ≡ b → SaysOwn k items (item.refused j place) (phase_at k (turned j refused st.methods))) [
      | true ↦ λ e.
          let same : k ≡ j = eqb-true k j e in
          let runs : phase_at k st.methods ≡ Some running = ap (λ n. phase_at n st.methods) same ∙ refused_runs C st j place f l in
          let none : finished_at k items ≡ None = subst (Says k items) runs (h k) in
          subst (SaysOwn k items (item.refused j place))
          (sym (ap (λ n. phase_at k (turned n refused st.methods)) (sym same) ∙ turned_here k refused running st.methods runs))
          (stays k items (item.refused j place) refl None none)
      | false ↦ λ e. subst (SaysOwn k items (item.refused j place))
          (sym (turned_other k j refused st.methods (λ same. differ (sym (eq-eqb k j same) ∙ e))))
          (stays k items (item.refused j place) refl (phase_at k st.methods) (h k))
    ] refl
  where
    differ : true ≡ false → ⊥
    differ e = cc e
own_says app number C st items (item.finished j place) f l h k =
    let i = item.finished j place in
    elim (k == j) as (λ b. k == j ≡ b → SaysOwn k items i (phase_at k (turned j (finished place) st.methods))) [
      | true ↦ λ e.
          let same : k ≡ j = eqb-true k j e in
          let runs : phase_at k st.methods ≡ Some running = ap (λ n. phase_at n st.methods) same ∙ f.0 in
          let none : finished_at k items ≡ None = subst (Says k items) runs (h k) in
          let ends : finished_at k (items ++ i ∷ []) ≡ Some place = finished-append k items i ∙ ap₂ option_or none (ap (λ b. cond b (Some place) None) e) in
          subst (SaysOwn k items i)
          (sym (ap (λ n. phase_at k (turned n (finished place) st.methods)) (sym same) ∙ turned_here k (finished place) running st.methods runs))
          (ends, never_open k items none)
      | false ↦ λ e. subst (SaysOwn k items i) (sym (turned_other k j (finished place) st.methods (λ same. differ (sym (eq-eqb k j same) ∙ e))))
          (stays k items i (ap (λ b. cond b (Some place) None) e) (phase_at k st.methods) (h k))
    ] refl
  where
    differ : true ≡ false → ⊥
    differ e = cc e
own_says app number C st items i f l h k = stays k items i refl (phase_at k st.methods) (h k)

after_says : (app : App) (number : ℕ) (C : List Moment) (st : State) (items : List Item) (i : Item) → Tracks st items → CanFollow app number C st i →
    BlocksLast st → KnowsFences st items → KnowsFences (after st i) (items ++ i ∷ [])
after_says app number C st items i t f l h k =
    let own = own_after st i in
    subst (Says k (items ++ i ∷ [])) (sym (phase_fired own.subs k own.methods))
    (fire_says (after st i) items i (tracks_after st items t app number C i f) k (phase_at k own.methods) (own_says app number C st items i f l h k))

says_from : (app : App) (number : ℕ) (C : List Moment) (st : State) (before items : List Item) → Tracks st before → BlocksLast st →
    KnowsFences st before → FitsFrom app number C st items → KnowsFences (state_from st items) (before ++ items)
says_from app number C st before [] t l h f = subst (KnowsFences st) (sym (append-nil before)) h
says_from app number C st before (i ∷ items) t l h f =
    subst (KnowsFences (state_from (after st i) items)) (append_assoc before (i ∷ []) items)
    (says_from app number C (after st i) (before ++ i ∷ []) items (tracks_after st before t app number C i f.0) (last_after app number C st i f.0 l)
    (after_says app number C st before i t f.0 l h) f.1)

pub says : (app : App) (number : ℕ) (C : List Moment) (items : List Item) → Fits app number C items → (k : ℕ) →
    Says k items (phase_at k (state_of items).methods)
says app number C items f = says_from app number C started [] items tracks_first (λ k e. cc e) (λ k. refl) f

-- ---- the law

told_to : (k : ℕ) (items : List Item) (o : Option Phase) → Says k items o → is_told o ≡ true → WasFenceOpen k items
told_to k items (Some (told place)) h e = h.1
told_to k items None h e = cc e
told_to k items (Some running) h e = cc e
told_to k items (Some refused) h e = cc e
told_to k items (Some (finished place)) h e = cc e

told_from : (k : ℕ) (items : List Item) (o : Option Phase) → Says k items o → WasFenceOpen k items → is_told o ≡ true
told_from k items (Some (told place)) h w = refl
told_from k items (Some (finished place)) h w = absurd (h.1 w)
told_from k items None h w = absurd (never_open k items h w)
told_from k items (Some running) h w = absurd (never_open k items h w)
told_from k items (Some refused) h w = absurd (never_open k items h w)

-- After a journal those calls are told whose fence was open at some time in it, so each is told with the first item after which it is open.
pub told_when_first_open : (app : App) (number : ℕ) (C : List Moment) (items : List Item) → Fits app number C items → (k : ℕ) →
    (is_told (phase_at k (state_of items).methods) ≡ true) ↔ WasFenceOpen k items
told_when_first_open app number C items f k = let h = says app number C items f k in (told_to k items _ h, told_from k items _ h)
