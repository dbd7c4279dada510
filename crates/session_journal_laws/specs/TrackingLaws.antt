-- Laws: The subscriptions that the items of a journal leave are those that the journal says, looking back.
use Rattle.std.specs.Prelude.{◌≡◌, ◌⊎◌, ℕ, suc, ◌+◌, ◌<◌, ◌≤◌, ◌==◌, nat_lt, nat_le, List, [], ◌∷◌, ◌++◌, length, Bool, true, false, cond, not, ◌&&◌}
use Rattle.std.specs.Prelude.{◌||◌, Option, Some, None, is_none, option_map, refl}
use Rattle.std.proofs.Common.{ap, ap₂, sym, subst, ◌∙◌, arith, inl, inr, append-nil}
use Rattle.std.proofs.lemmas.List.{append_assoc}
use Rattle.std.proofs.lemmas.Bool.{ltb-true, lt-ltb, le-ltb, cases_order, eqb-true, eq-eqb, ne_eqb, and_parts}
use Rattle.std.specs.Option.{option_or}
use Rattle.app_model.specs.App.{App}
use Rattle.session_model.specs.Items.{Item}
use Rattle.session_model.specs.Items as item
use Rattle.session_model.specs.Subscriptions.{Live, is_live, cursor_of, loaded, moved, advanced, closed, may_load}
use Rattle.session_model.specs.State.{State, started, opening, after, state_from, state_of}
use Rattle.session_model.specs.Moments.{Moment}
use Rattle.session_model.specs.Shown.{subject}
use Rattle.session_model.specs.Fits.{MayAdvance, CanFollow, FitsFrom, Fits}
use Rattle.session_model.specs.LooksBack.{one_opened, opened_in, closes, is_closed, load_by, loaded_at, advance_by, advances, cursor_in}
use Rattle.session_journal_laws.specs.Live.{same_closed, same_opened, others_stay_at}
use Rattle.session_journal_laws.specs.HandledLaws.{open_is, close_live}
use Rattle.session_journal_laws.specs.Tracking.{AreDistinct, IsQuiet, Tracks, cursor_by}

-- ---- one item at the end

or_false : (b : Bool) → (b || false) ≡ b
or_false true = refl
or_false false = refl

or_assoc : (a b c : Bool) → (a || (b || c)) ≡ ((a || b) || c)
or_assoc true b c = refl
or_assoc false b c = refl

or_none : (o : Option ℕ) → option_or o None ≡ o
or_none None = refl
or_none (Some n) = refl

first_assoc : (a b c : Option ℕ) → option_or a (option_or b c) ≡ option_or (option_or a b) c
first_assoc None b c = refl
first_assoc (Some n) b c = refl

pub closed-append : (s : ℕ) (items : List Item) (i : Item) → is_closed s (items ++ i ∷ []) ≡ (is_closed s items || closes s i)
closed-append s [] i = or_false (closes s i)
closed-append s (j ∷ items) i = ap (λ b. closes s j || b) (closed-append s items i) ∙ or_assoc (closes s j) (is_closed s items) (closes s i)

pub loaded-append : (s : ℕ) (items : List Item) (i : Item) → loaded_at s (items ++ i ∷ []) ≡ option_or (loaded_at s items) (load_by s i)
loaded-append s [] i = or_none (load_by s i)
loaded-append s (j ∷ items) i = ap (option_or (load_by s j)) (loaded-append s items i) ∙ first_assoc (load_by s j) (loaded_at s items) (load_by s i)

pub advances-append : (s : ℕ) (items : List Item) (i : Item) → advances s (items ++ i ∷ []) ≡ advances s items + advance_by s i
advances-append s [] i = omega arith
advances-append s (j ∷ items) i = omega (arith, advances-append s items i)

pub opened-append : (items : List Item) (i : Item) → opened_in (items ++ i ∷ []) ≡ opened_in items + one_opened i
opened-append [] i = omega arith
opened-append (j ∷ items) i = omega (arith, opened-append items i)

pub cursor-append : (s : ℕ) (items : List Item) (i : Item) →
    cursor_in s (items ++ i ∷ []) ≡ cursor_by (is_closed s items || closes s i) (option_or (loaded_at s items) (load_by s i))
    (advances s items + advance_by s i)
cursor-append s items i =
    ap₂ (λ c p. cursor_by c p (advances s (items ++ i ∷ []))) (closed-append s items i) (loaded-append s items i)
    ∙ ap (cursor_by (is_closed s items || closes s i) (option_or (loaded_at s items) (load_by s i))) (advances-append s items i)

quiet_cursor : (s : ℕ) (items : List Item) (i : Item) → IsQuiet s i → cursor_in s (items ++ i ∷ []) ≡ cursor_in s items
quiet_cursor s items i q =
    cursor-append s items i
    ∙ (ap₂ (λ c p. cursor_by (is_closed s items || c) (option_or (loaded_at s items) p) (advances s items + advance_by s i)) q.close q.load
    ∙ (ap (λ n. cursor_by (is_closed s items || false) (option_or (loaded_at s items) None) (advances s items + n)) q.advance
    ∙ (ap₂ (λ c p. cursor_by c p (advances s items + 0)) (or_false (is_closed s items)) (or_none (loaded_at s items))
    ∙ ap (cursor_by (is_closed s items) (loaded_at s items)) (omega arith))))

quiet : (s : ℕ) (i : Item) → (s == subject i) ≡ false → IsQuiet s i
quiet s (item.load r place) e = record { load = ap (λ b. cond b (Some place) None) e; advance = refl; close = refl }
quiet s (item.advance r count) e = record { load = refl; advance = ap (λ b. cond b count 0) e; close = refl }
quiet s (item.close r message) e = record { load = refl; advance = refl; close = e }
quiet s i e = record { load = refl; advance = refl; close = refl }

-- ---- the subscription that an item is about

pub loaded_here : (s place : ℕ) (ls : List Live) → may_load s place ls ≡ true →
    (cursor_of s (loaded s place ls) ≡ Some place) × (cursor_of s ls ≡ None) × (is_live s ls ≡ true)
loaded_here s place [] e = cc e
loaded_here s place (l ∷ ls) e =
    elim (s == l.sub) as (λ b. s == l.sub ≡ b → cond b (is_none l.cursor && nat_le l.floor place) (may_load s place ls) ≡ true →
    (cursor_of s (cond b (record l { cursor = Some place } ∷ ls) (l ∷ loaded s place ls)) ≡ Some place) × (cond b l.cursor (cursor_of s ls) ≡ None) ×
    (cond b true (is_live s ls) ≡ true)) [
      | true ↦ λ is may. (ap (λ b. cond b (Some place) (cursor_of s ls)) is, none l.cursor (and_parts (is_none l.cursor) (nat_le l.floor place) may).0, refl)
      | false ↦ λ is may. let rest = loaded_here s place ls may in (ap (λ b. cond b l.cursor (cursor_of s (loaded s place ls))) is ∙ rest.0, rest.1, rest.2)
    ] refl e
  where
    none : (o : Option ℕ) → is_none o ≡ true → o ≡ None
    none None e = refl
    none (Some n) e = cc e

moved_none : (count : ℕ) → moved count None ≡ None
moved_none count = refl

pub advanced_here : (s count : ℕ) (ls : List Live) → cursor_of s (advanced s count ls) ≡ moved count (cursor_of s ls)
advanced_here s count [] = refl
advanced_here s count (l ∷ ls) =
    elim (s == l.sub) as
    (λ b. s == l.sub ≡ b → cursor_of s (cond b (record l { cursor = moved count l.cursor } ∷ ls) (l ∷ advanced s count ls))
    ≡ moved count (cond b l.cursor (cursor_of s ls))) [
      | true ↦ λ is. ap (λ b. cond b (moved count l.cursor) (cursor_of s ls)) is
      | false ↦ λ is. ap (λ b. cond b l.cursor (cursor_of s (advanced s count ls))) is ∙ advanced_here s count ls
    ] refl

closed_here : (s : ℕ) (ls : List Live) → cursor_of s (closed s ls) ≡ None
closed_here s [] = refl
closed_here s (l ∷ ls) =
    elim (s == l.sub) as (λ b. s == l.sub ≡ b → cursor_of s (cond (not b) (l ∷ closed s ls) (closed s ls)) ≡ None) [
      | true ↦ λ is. closed_here s ls
      | false ↦ λ is. ap (λ b. cond b l.cursor (cursor_of s (closed s ls))) is ∙ closed_here s ls
    ] refl

-- ---- which are live

live_loaded : (s r place : ℕ) (ls : List Live) → is_live s (loaded r place ls) ≡ is_live s ls
live_loaded s r place [] = refl
live_loaded s r place (l ∷ ls) = elim (r == l.sub) as
    (λ b. is_live s (cond b (record l { cursor = Some place } ∷ ls) (l ∷ loaded r place ls)) ≡ is_live s (l ∷ ls))
    [ true ↦ refl | false ↦ ap (cond (s == l.sub) true) (live_loaded s r place ls) ]

live_advanced : (s r count : ℕ) (ls : List Live) → is_live s (advanced r count ls) ≡ is_live s ls
live_advanced s r count [] = refl
live_advanced s r count (l ∷ ls) =
    elim (r == l.sub) as
    (λ b. is_live s (cond b (record l { cursor = moved count l.cursor } ∷ ls) (l ∷ advanced r count ls)) ≡ is_live s (l ∷ ls))
    [ true ↦ refl | false ↦ ap (cond (s == l.sub) true) (live_advanced s r count ls) ]

live_closed : (s r : ℕ) (ls : List Live) → is_live s (closed r ls) ≡ (is_live s ls && not (s == r))
live_closed s r [] = refl
live_closed s r (l ∷ ls) =
    elim (s == r) as (λ c. s == r ≡ c → is_live s (closed r (l ∷ ls)) ≡ (is_live s (l ∷ ls) && not c)) [
      | true ↦ λ is. subst (λ x. is_live x (closed r (l ∷ ls)) ≡ (is_live x (l ∷ ls) && false)) (sym (eqb-true s r is))
          (gone r (l ∷ ls) ∙ sym (and_false (is_live r (l ∷ ls))))
      | false ↦ λ is. same_closed (λ (x : Live). true) false r s (l ∷ ls) is ∙ sym (and_true (is_live s (l ∷ ls)))
    ] refl
  where
    and_true : (b : Bool) → (b && true) ≡ b
    and_true true = refl
    and_true false = refl

    and_false : (b : Bool) → (b && false) ≡ false
    and_false true = refl
    and_false false = refl

    gone : (r : ℕ) (ls : List Live) → is_live r (closed r ls) ≡ false
    gone r [] = refl
    gone r (l ∷ ls) =
        elim (r == l.sub) as (λ b. r == l.sub ≡ b → is_live r (cond (not b) (l ∷ closed r ls) (closed r ls)) ≡ false) [
          | true ↦ λ is. gone r ls
          | false ↦ λ is. ap (λ b. cond b true (is_live r (closed r ls))) is ∙ gone r ls
        ] refl

live_opened : (s : ℕ) (ls : List Live) (l : Live) → is_live s (ls ++ l ∷ []) ≡ (is_live s ls || (s == l.sub))
live_opened s [] l = elim (s == l.sub) as (λ b. cond b true false ≡ b) [ true ↦ refl | false ↦ refl ]
live_opened s (x ∷ ls) l = ap (cond (s == x.sub) true) (live_opened s ls l)
    ∙ elim (s == x.sub) as (λ b. cond b true (is_live s ls || (s == l.sub)) ≡ (cond b true (is_live s ls) || (s == l.sub))) [ true ↦ refl | false ↦ refl ]

distinct_loaded : (s place : ℕ) (ls : List Live) → AreDistinct ls → AreDistinct (loaded s place ls)
distinct_loaded s place [] d = tt
distinct_loaded s place (l ∷ ls) d =
    elim (s == l.sub) as
    (λ b. AreDistinct (cond b (record l { cursor = Some place } ∷ ls) (l ∷ loaded s place ls)))
    [ true ↦ d | false ↦ (live_loaded l.sub s place ls ∙ d.0, distinct_loaded s place ls d.1) ]

distinct_advanced : (s count : ℕ) (ls : List Live) → AreDistinct ls → AreDistinct (advanced s count ls)
distinct_advanced s count [] d = tt
distinct_advanced s count (l ∷ ls) d =
    elim (s == l.sub) as
    (λ b. AreDistinct (cond b (record l { cursor = moved count l.cursor } ∷ ls) (l ∷ advanced s count ls)))
    [ true ↦ d | false ↦ (live_advanced l.sub s count ls ∙ d.0, distinct_advanced s count ls d.1) ]

distinct_closed : (s : ℕ) (ls : List Live) → AreDistinct ls → AreDistinct (closed s ls)
distinct_closed s [] d = tt
distinct_closed s (l ∷ ls) d =
    elim (s == l.sub) as (λ b. AreDistinct (cond (not b) (l ∷ closed s ls) (closed s ls))) [
      | true ↦ distinct_closed s ls d.1
      | false ↦ (live_closed l.sub s ls ∙ ap (λ b. b && not (l.sub == s)) d.0, distinct_closed s ls d.1)
    ]

distinct_opened : (ls : List Live) (l : Live) → is_live l.sub ls ≡ false → AreDistinct ls → AreDistinct (ls ++ l ∷ [])
distinct_opened [] l new d = (refl, tt)
distinct_opened (x ∷ ls) l new d =
    elim (l.sub == x.sub) as (λ b. l.sub == x.sub ≡ b → cond b true (is_live l.sub ls) ≡ false → AreDistinct (x ∷ (ls ++ l ∷ []))) [
      | true ↦ λ is e. absurd (cc e)
      | false ↦ λ is e. (
        live_opened x.sub ls l ∙ ap₂ (λ a b. a || b) d.0 (ne_eqb x.sub l.sub (λ same. differ (sym (eq-eqb l.sub x.sub (sym same)) ∙ is))),
        distinct_opened ls l e d.1,
      )
    ] refl new
  where
    differ : true ≡ false → ⊥
    differ e = cc e

-- ---- all of it, over a journal

pub tracks_first : Tracks started []
tracks_first = record {
  cursors = λ s. refl;
  live = λ s. sym (ap (λ b. b && true) (le-ltb s 0 (omega arith)));
  distinct = tt;
  unloaded = λ s e. refl;
  fresh = λ s le. (refl, refl);
  opened = refl;
}

module _ (st : State) (items : List Item) (t : Tracks st items) where
  pub live_below : (s : ℕ) → is_live s st.subs ≡ true → (s < st.opened) × (is_closed s items ≡ false)
  live_below s e =
      let p = and_parts (nat_lt s st.opened) (not (is_closed s items)) (sym (t.live s) ∙ e) in
      (ltb-true s st.opened p.0, elim (is_closed s items) as (λ b. not b ≡ true → b ≡ false) [ true ↦ λ x. cc x | false ↦ λ x. refl ] p.1)

  pub unloaded_yet : (s : ℕ) → is_closed s items ≡ false → cursor_in s items ≡ None → loaded_at s items ≡ None
  unloaded_yet s open_ e = by (loaded_at s items) (ap (λ b. cursor_by b (loaded_at s items) (advances s items)) (sym open_) ∙ e)
    where
      by : (o : Option ℕ) → option_map (λ p. p + advances s items) o ≡ None → o ≡ None
      by None e = refl
      by (Some p) e = cc e

  -- ---- cursors
  cursor_loaded : (s place : ℕ) → may_load s place st.subs ≡ true → cursor_of s (loaded s place st.subs) ≡ cursor_in s (items ++ item.load s place ∷ [])
  cursor_loaded s place may =
      let here = loaded_here s place st.subs may in
      let open_ : is_closed s items ≡ false = (live_below s here.2).1 in
      let no_place : loaded_at s items ≡ None = unloaded_yet s open_ (sym (t.cursors s) ∙ here.1) in
      let by_itself : load_by s (item.load s place) ≡ Some place = ap (λ b. cond b (Some place) None) (eq-eqb s s refl) in
      here.0 ∙ sym (cursor-append s items (item.load s place)
      ∙ (ap₂ (λ c p. cursor_by (c || false) (option_or p (load_by s (item.load s place))) (advances s items + 0)) open_ no_place
      ∙ (ap₂ (λ p n. cursor_by false p (n + 0)) by_itself (t.unloaded s no_place) ∙ ap (λ n. Some n) (omega arith))))

  moved_by : (b : Bool) (o : Option ℕ) (n count : ℕ) → moved count (cursor_by b o n) ≡ cursor_by b o (n + count)
  moved_by true o n count = refl
  moved_by false None n count = refl
  moved_by false (Some p) n count = ap (λ x. Some x) (omega arith)

  cursor_advanced : (s count : ℕ) → cursor_of s (advanced s count st.subs) ≡ cursor_in s (items ++ item.advance s count ∷ [])
  cursor_advanced s count =
      let by_itself : advance_by s (item.advance s count) ≡ count = ap (λ b. cond b count 0) (eq-eqb s s refl) in
      advanced_here s count st.subs ∙ (ap (moved count) (t.cursors s) ∙ (moved_by (is_closed s items) (loaded_at s items) (advances s items) count
      ∙ sym (cursor-append s items (item.advance s count)
      ∙ (ap (λ n. cursor_by (is_closed s items || false) (option_or (loaded_at s items) None) (advances s items + n)) by_itself
      ∙ ap₂ (λ c p. cursor_by c p (advances s items + count)) (or_false (is_closed s items)) (or_none (loaded_at s items))))))

  cursor_closed : (s : ℕ) (i : Item) → closes s i ≡ true → cursor_of s (closed s st.subs) ≡ cursor_in s (items ++ i ∷ [])
  cursor_closed s i e =
      closed_here s st.subs
      ∙ sym (cursor-append s items i ∙ (ap (λ c. cursor_by c (option_or (loaded_at s items) (load_by s i)) (advances s items + advance_by s i))
      (ap (λ c. is_closed s items || c) e ∙ or_true (is_closed s items))))
    where
      or_true : (b : Bool) → (b || true) ≡ true
      or_true true = refl
      or_true false = refl

  next_cursor : (app : App) (number : ℕ) (C : List Moment) (i : Item) → CanFollow app number C st i → (s : ℕ) →
      cursor_of s (after st i).subs ≡ cursor_in s (items ++ i ∷ [])
  next_cursor app number C i f s =
      elim (s == subject i) as (λ b. s == subject i ≡ b → cursor_of s (after st i).subs ≡ cursor_in s (items ++ i ∷ [])) [
        | true ↦ λ is. here i f (eqb-true s (subject i) is)
        | false ↦ λ is. others_stay_at (λ (l : Live). l.cursor) None st i s (λ r message cursors. refl) is
            ∙ (t.cursors s ∙ sym (quiet_cursor s items i (quiet s i is)))
      ] refl
    where
      same : (i : Item) → cursor_of s (after st i).subs ≡ cursor_of s st.subs → IsQuiet s i → cursor_of s (after st i).subs ≡ cursor_in s (items ++ i ∷ [])
      same i e q = e ∙ (t.cursors s ∙ sym (quiet_cursor s items i q))

      here : (i : Item) → CanFollow app number C st i → s ≡ subject i → cursor_of s (after st i).subs ≡ cursor_in s (items ++ i ∷ [])
      here (item.load r place) f e =
          subst (λ x. cursor_of x (loaded r place st.subs) ≡ cursor_in x (items ++ item.load r place ∷ [])) (sym e) (cursor_loaded r place f.0)
      here (item.advance r count) f e =
          subst (λ x. cursor_of x (advanced r count st.subs) ≡ cursor_in x (items ++ item.advance r count ∷ [])) (sym e) (cursor_advanced r count)
      here (item.close r message) f e = subst (λ x. cursor_of x (closed r st.subs) ≡ cursor_in x (items ++ item.close r message ∷ [])) (sym e)
          (cursor_closed r (item.close r message) (eq-eqb r r refl))
      here (item.subscribe r message cursors) f e = same (item.subscribe r message cursors)
          (same_opened (λ (l : Live). l.cursor) None s st.subs (opening st r message cursors) refl) (record { load = refl; advance = refl; close = refl })
      here i f e = same i refl (record { load = refl; advance = refl; close = refl })

  -- ---- which are live

  next_live : (app : App) (number : ℕ) (C : List Moment) (i : Item) → CanFollow app number C st i → (s : ℕ) →
      is_live s (after st i).subs ≡ (nat_lt s (after st i).opened && not (is_closed s (items ++ i ∷ [])))
  next_live app number C i f s = here i f ∙ ap (λ b. nat_lt s (after st i).opened && not b) (sym (closed-append s items i))
    where
      still : is_live s st.subs ≡ (nat_lt s st.opened && not (is_closed s items || false))
      still = t.live s ∙ ap (λ b. nat_lt s st.opened && not b) (sym (or_false (is_closed s items)))

      without : (a b c : Bool) → ((a && not b) && not c) ≡ (a && not (b || c))
      without true true c = refl
      without true false c = refl
      without false b c = refl

      with_next : (b : Bool) → (s ≡ st.opened → b ≡ false) →
          ((nat_lt s st.opened && not b) || (s == st.opened)) ≡ (nat_lt s (suc st.opened) && not (b || false))
      with_next b new = by (cases_order s st.opened)
        where
          by : (s ≡ st.opened) ⊎ ((s < st.opened) ⊎ (st.opened < s)) →
              ((nat_lt s st.opened && not b) || (s == st.opened)) ≡ (nat_lt s (suc st.opened) && not (b || false))
          by (inl e) =
              ap₂ (λ x y. (nat_lt s st.opened && not x) || y) (new e) (eq-eqb s st.opened e) ∙ (or_true (nat_lt s st.opened && true)
              ∙ sym (ap₂ (λ x y. x && not (y || false)) (lt-ltb s (suc st.opened) (omega (arith, e))) (new e)))
            where
              or_true : (x : Bool) → (x || true) ≡ true
              or_true true = refl
              or_true false = refl
          by (inr (inl l)) =
              ap₂ (λ x y. (x && not b) || y) (lt-ltb s st.opened l) (ne_eqb s st.opened (λ e. omega (arith, e, l))) ∙ (or_false (not b)
              ∙ sym (ap₂ (λ x y. x && not y) (lt-ltb s (suc st.opened) (omega (arith, l))) (or_false b)))
          by (inr (inr l)) =
              ap₂ (λ x y. (x && not b) || y) (le-ltb s st.opened (omega (arith, l))) (ne_eqb s st.opened (λ e. omega (arith, e, l)))
              ∙ sym (ap (λ x. x && not (b || false)) (le-ltb s (suc st.opened) (omega (arith, l))))

      here : (i : Item) → CanFollow app number C st i → is_live s (after st i).subs ≡ (nat_lt s (after st i).opened && not (is_closed s items || closes s i))
      here (item.load r place) f = live_loaded s r place st.subs ∙ still
      here (item.advance r count) f = live_advanced s r count st.subs ∙ still
      here (item.close r message) f = live_closed s r st.subs
          ∙ (ap (λ b. b && not (s == r)) (t.live s) ∙ without (nat_lt s st.opened) (is_closed s items) (s == r))
      here (item.subscribe r message cursors) f =
          live_opened s st.subs (opening st r message cursors)
          ∙ (ap₂ (λ x n. x || (s == n)) (t.live s) (open_is app number st message r message cursors f.made).number
          ∙ with_next (is_closed s items) (λ e. (t.fresh s (omega (arith, e))).1))
      here i f = still

  next_distinct : (app : App) (number : ℕ) (C : List Moment) (i : Item) → CanFollow app number C st i → AreDistinct (after st i).subs
  next_distinct app number C (item.load r place) f = distinct_loaded r place st.subs t.distinct
  next_distinct app number C (item.advance r count) f = distinct_advanced r count st.subs t.distinct
  next_distinct app number C (item.close r message) f = distinct_closed r st.subs t.distinct
  next_distinct app number C (item.subscribe r message cursors) f =
      let e = (open_is app number st message r message cursors f.made).number in
      distinct_opened st.subs (opening st r message cursors)
      (t.live r ∙ ap (λ b. b && not (is_closed r items)) (le-ltb r st.opened (omega (arith, e)))) t.distinct
  next_distinct app number C i f = t.distinct

  -- ---- what a subscription that isn't loaded, or isn't opened, has done

  both_none : (a b : Option ℕ) → option_or a b ≡ None → (a ≡ None) × (b ≡ None)
  both_none None b e = (refl, e)
  both_none (Some n) b e = cc e

  next_unloaded : (app : App) (number : ℕ) (C : List Moment) (i : Item) → CanFollow app number C st i → (s : ℕ) → loaded_at s (items ++ i ∷ []) ≡ None →
      advances s (items ++ i ∷ []) ≡ 0
  next_unloaded app number C i f s e =
      let none = both_none (loaded_at s items) (load_by s i) (sym (loaded-append s items i) ∙ e) in
      advances-append s items i ∙ ap₂ (λ a b. a + b) (t.unloaded s none.0) (stays i f none.0)
    where
      no_cursor : (r : ℕ) → loaded_at r items ≡ None → cursor_of r st.subs ≡ None
      no_cursor r e = t.cursors r
          ∙ (ap (λ o. cursor_by (is_closed r items) o (advances r items)) e
          ∙ elim (is_closed r items) as (λ b. cursor_by b None (advances r items) ≡ None) [ true ↦ refl | false ↦ refl ])

      stays : (i : Item) → CanFollow app number C st i → loaded_at s items ≡ None → advance_by s i ≡ 0
      stays (item.advance r count) f none =
          elim (s == r) as (λ b. s == r ≡ b → cond b count 0 ≡ 0) [
            | true ↦ λ is. absurd (subst (MayAdvance (length C) count) (no_cursor r (subst (λ x. loaded_at x items ≡ None) (eqb-true s r is) none)) f)
            | false ↦ λ is. refl
          ] refl
      stays i f none = refl

  next_fresh : (app : App) (number : ℕ) (C : List Moment) (i : Item) → CanFollow app number C st i → (s : ℕ) → (after st i).opened ≤ s →
      (loaded_at s (items ++ i ∷ []) ≡ None) × (is_closed s (items ++ i ∷ []) ≡ false)
  next_fresh app number C i f s le = let w = here i f le in (loaded-append s items i ∙ w.0, closed-append s items i ∙ w.1)
    where
      old : st.opened ≤ s → (option_or (loaded_at s items) None ≡ None) × ((is_closed s items || false) ≡ false)
      old le = let w = t.fresh s le in (ap (λ o. option_or o None) w.0, ap (λ b. b || false) w.1)

      apart : (r : ℕ) → st.opened ≤ s → is_live r st.subs ≡ true → (s == r) ≡ false
      apart r le live = ne_eqb s r (λ e. omega (arith, e, le, (live_below r live).0))

      here : (i : Item) → CanFollow app number C st i → (after st i).opened ≤ s →
          (option_or (loaded_at s items) (load_by s i) ≡ None) × ((is_closed s items || closes s i) ≡ false)
      here (item.load r place) f le =
          let w = old le in
          let other = apart r le (loaded_here r place st.subs f.0).2 in
          (ap (λ b. option_or (loaded_at s items) (cond b (Some place) None)) other ∙ w.0, w.1)
      here (item.close r message) f le =
          let w = old le in
          let other = apart r le (close_live app number st message r message f.made) in
          (w.0, ap (λ b. is_closed s items || b) other ∙ w.1)
      here (item.subscribe r message cursors) f le = old (omega (arith, le))
      here i f le = old le

  next_opened : (i : Item) → (after st i).opened ≡ opened_in (items ++ i ∷ [])
  next_opened i = here i ∙ sym (opened-append items i)
    where
      here : (i : Item) → (after st i).opened ≡ opened_in items + one_opened i
      here (item.subscribe r message cursors) = omega (arith, t.opened)
      here i = omega (arith, t.opened)

  pub tracks_after : (app : App) (number : ℕ) (C : List Moment) (i : Item) → CanFollow app number C st i → Tracks (after st i) (items ++ i ∷ [])
  tracks_after app number C i f = record {
    cursors = next_cursor app number C i f;
    live = next_live app number C i f;
    distinct = next_distinct app number C i f;
    unloaded = next_unloaded app number C i f;
    fresh = next_fresh app number C i f;
    opened = next_opened i;
  }

-- from a journal to the journals that begin with it
pub tracks_from : (app : App) (number : ℕ) (C : List Moment) (st : State) (before items : List Item) → Tracks st before →
    FitsFrom app number C st items → Tracks (state_from st items) (before ++ items)
tracks_from app number C st before [] t f = subst (Tracks st) (sym (append-nil before)) t
tracks_from app number C st before (i ∷ items) t f =
    subst (Tracks (state_from (after st i) items)) (append_assoc before (i ∷ []) items)
    (tracks_from app number C (after st i) (before ++ i ∷ []) items (tracks_after st before t app number C i f.0) f.1)

pub tracks : (app : App) (number : ℕ) (C : List Moment) (items : List Item) → Fits app number C items → Tracks (state_of items) items
tracks app number C items f = tracks_from app number C started [] items tracks_first f

-- The place that a session keeps of a subscription is the one that its journal says.
pub cursor_looks_back : (app : App) (number : ℕ) (C : List Moment) (items : List Item) → Fits app number C items → (s : ℕ) →
    cursor_of s (state_of items).subs ≡ cursor_in s items
cursor_looks_back app number C items f s = (tracks app number C items f).cursors s
