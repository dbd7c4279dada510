-- Laws: The calls of a journal that were not refused: each is new at its item, and the one that blocks is the last.
use Rattle.std.specs.Prelude.{◌≡◌, ℕ, zero, suc, ◌<◌, ◌≤◌, ◌==◌, List, [], ◌∷◌, ◌++◌, length, filter, Bool, true, false, cond, not, ◌||◌, Option}
use Rattle.std.specs.Prelude.{None, Some, refl}
use Rattle.std.proofs.Common.{ap, ap₂, sym, subst, ◌∙◌, arith, append-nil}
use Rattle.std.proofs.lemmas.List.{append_assoc, length-append}
use Rattle.std.proofs.lemmas.List.Elements.{filter-append}
use Rattle.std.proofs.lemmas.List.Folds.{list_any-append}
use Rattle.std.proofs.lemmas.Bool.{eqb-true, eq-eqb, ne_eqb}
use Rattle.value_model.specs.Val.{Val}
use Rattle.ddp_messages.specs.ClientMessage.{ClientMessage}
use Rattle.app_model.specs.App.{App}
use Rattle.world_model.specs.session_model.Items.{Item, id_of}
use Rattle.world_model.specs.session_model.Items as item
use Rattle.world_model.specs.session_model.Subscriptions.{Live}
use Rattle.world_model.specs.session_model.Methods.{Phase, running, refused, finished, Method, Blocking, is_blocked_by, freed, turned, fire}
use Rattle.world_model.specs.session_model.State.{State, started, calling, own_after, after, state_from, state_of}
use Rattle.world_model.specs.session_model.Moments.{Moment, moment_at}
use Rattle.world_model.specs.session_model.Fits.{IsRefusedAt, CanFollow, FitsFrom, Fits}
use Rattle.session_journal_laws.specs.BlockingLaws.{call_number, refused_blocks}
use Rattle.world_model.specs.session_model.LooksBack.{refuses, is_refused_in}
use Rattle.world_model.specs.Headline.{call_by, calls_in, standing}
use Rattle.world_invariant_laws.specs.Standing.{AreBelow, IsLastCall, KnowsCalls, is_plain, stands_in}

-- ---- one item at the end

or_false : (b : Bool) → (b || false) ≡ b
or_false true = refl
or_false false = refl

pub calls_in-append : (items : List Item) (i : Item) → calls_in (items ++ i ∷ []) ≡ calls_in items ++ call_by i
calls_in-append [] i = append-nil (call_by i)
calls_in-append (j ∷ items) i = ap (λ bs. call_by j ++ bs) (calls_in-append items i) ∙ sym (append_assoc (call_by j) (calls_in items) (call_by i))

refused-append : (items : List Item) (i : Item) (k : ℕ) → is_refused_in (items ++ i ∷ []) k ≡ (is_refused_in items k || refuses k i)
refused-append items i k = list_any-append (refuses k) items (i ∷ []) ∙ ap (λ b. is_refused_in items k || b) (or_false (refuses k i))

filter_same : (p q : Blocking → Bool) (bs : List Blocking) → ((b : Blocking) → p b ≡ q b) → filter p bs ≡ filter q bs
filter_same p q [] e = refl
filter_same p q (b ∷ bs) e = ap₂ (λ c rest. cond c (b ∷ rest) rest) (e b) (filter_same p q bs e)

-- ---- numbers

below_later : (n m : ℕ) (bs : List Blocking) → n ≤ m → AreBelow n bs → AreBelow m bs
below_later n m [] le p = tt
below_later n m (b ∷ bs) le p = (omega (arith, p.0, le), below_later n m bs le p.1)

below_more : (n : ℕ) (bs cs : List Blocking) → AreBelow n bs → AreBelow n cs → AreBelow n (bs ++ cs)
below_more n [] cs p q = q
below_more n (b ∷ bs) cs p q = (p.0, below_more n bs cs p.1 q)

pub below_first : (n : ℕ) (bs cs : List Blocking) → AreBelow n (bs ++ cs) → AreBelow n bs
below_first n [] cs p = tt
below_first n (b ∷ bs) cs p = (p.0, below_first n bs cs p.1)

pub below_filtered : (n : ℕ) (q : Blocking → Bool) (bs : List Blocking) → AreBelow n bs → AreBelow n (filter q bs)
below_filtered n q [] p = tt
below_filtered n q (b ∷ bs) p = elim (q b) as
    (λ c. AreBelow n (cond c (b ∷ filter q bs) (filter q bs))) [ true ↦ (p.0, below_filtered n q bs p.1) | false ↦ below_filtered n q bs p.1 ]

-- what stands is of numbers that were given
pub standing_below : (st : State) (items : List Item) → KnowsCalls st items → AreBelow (length st.methods) (standing items)
standing_below st items k = below_filtered (length st.methods) (stands_in items) (calls_in items) k.below

-- ---- items that are no call and refuse none

plain_item : (i : Item) → is_plain i ≡ true → (call_by i ≡ []) × ((k : ℕ) → refuses k i ≡ false)
plain_item (item.call k message seed) e = cc e
plain_item (item.refused k place) e = cc e
plain_item i e = (refl, λ k. refl)

plain_calls : (items : List Item) (i : Item) → is_plain i ≡ true → calls_in (items ++ i ∷ []) ≡ calls_in items
plain_calls items i e = calls_in-append items i ∙ (ap (λ bs. calls_in items ++ bs) (plain_item i e).0 ∙ append-nil (calls_in items))

plain_refused : (items : List Item) (i : Item) → is_plain i ≡ true → (k : ℕ) → is_refused_in (items ++ i ∷ []) k ≡ is_refused_in items k
plain_refused items i e k = refused-append items i k ∙ (ap (λ b. is_refused_in items k || b) ((plain_item i e).1 k) ∙ or_false (is_refused_in items k))

pub plain_standing : (items : List Item) (i : Item) → is_plain i ≡ true → standing (items ++ i ∷ []) ≡ standing items
plain_standing items i e =
    ap (filter (stands_in (items ++ i ∷ []))) (plain_calls items i e)
    ∙ filter_same (stands_in (items ++ i ∷ [])) (stands_in items) (calls_in items) (λ b. ap not (plain_refused items i e b.k))

-- ---- a call

pub call_standing : (st : State) (items : List Item) (k : ℕ) (message : ClientMessage) (seed : Val) → KnowsCalls st items → k ≡ length st.methods →
    standing (items ++ item.call k message seed ∷ []) ≡ standing items ++ calling k message seed ∷ []
call_standing st items k message seed w number =
    let i = item.call k message seed in
    let same : (j : ℕ) → is_refused_in (items ++ i ∷ []) j ≡ is_refused_in items j = λ j. refused-append items i j ∙ or_false (is_refused_in items j) in
    let new : is_refused_in items k ≡ false = w.fresh k (omega (arith, number)) in
    ap (filter (stands_in (items ++ i ∷ []))) (calls_in-append items i)
    ∙ (filter_same (stands_in (items ++ i ∷ [])) (stands_in items) (calls_in items ++ calling k message seed ∷ []) (λ b. ap not (same b.k))
    ∙ (filter-append (stands_in items) (calls_in items) (calling k message seed ∷ [])
    ∙ ap (λ b. standing items ++ cond (not b) (calling k message seed ∷ []) []) new))

-- ---- a refusal

others_stand : (k : ℕ) (items : List Item) (i : Item) (bs : List Blocking) →
    ((j : ℕ) → is_refused_in (items ++ i ∷ []) j ≡ (is_refused_in items j || (j == k))) → AreBelow k bs →
    filter (stands_in (items ++ i ∷ [])) bs ≡ filter (stands_in items) bs
others_stand k items i [] e p = refl
others_stand k items i (b ∷ bs) e p =
    let apart : (b.k == k) ≡ false = ne_eqb b.k k (λ s. omega (arith, s, p.0)) in
    ap₂ (λ c rest. cond (not c) (b ∷ rest) rest) (e b.k ∙ (ap (λ c. is_refused_in items b.k || c) apart ∙ or_false (is_refused_in items b.k)))
    (others_stand k items i bs e p.1)

pub refused_standing : (items : List Item) (place : ℕ) (b : Blocking) → IsLastCall items b →
    standing items ≡ standing (items ++ item.refused b.k place ∷ []) ++ b ∷ []
refused_standing items place b l =
    let i = item.refused b.k place in
    let now : (j : ℕ) → is_refused_in (items ++ i ∷ []) j ≡ (is_refused_in items j || (j == b.k)) = λ j. refused-append items i j in
    let calls : calls_in (items ++ i ∷ []) ≡ l.older ++ b ∷ [] = calls_in-append items i ∙ (append-nil (calls_in items) ∙ l.is) in
    let self : is_refused_in (items ++ i ∷ []) b.k ≡ true = now b.k ∙ ap₂ (λ x y. x || y) l.stands (eq-eqb b.k b.k refl) in
    let before : standing items ≡ filter (stands_in items) l.older ++ b ∷ [] =
    ap (filter (stands_in items)) l.is
    ∙ (filter-append (stands_in items) l.older (b ∷ []) ∙ ap (λ c. filter (stands_in items) l.older ++ cond (not c) (b ∷ []) []) l.stands) in
    let later : standing (items ++ i ∷ []) ≡ filter (stands_in items) l.older =
    ap (filter (stands_in (items ++ i ∷ []))) calls
    ∙ (filter-append (stands_in (items ++ i ∷ [])) l.older (b ∷ [])
    ∙ (ap (λ c. filter (stands_in (items ++ i ∷ [])) l.older ++ cond (not c) (b ∷ []) []) self
    ∙ (append-nil (filter (stands_in (items ++ i ∷ [])) l.older) ∙ others_stand b.k items i l.older now l.below))) in
    before ∙ ap (λ bs. bs ++ b ∷ []) (sym later)

-- ---- what is known is kept

turned_length : (k : ℕ) (p : Phase) (ms : List Method) → length (turned k p ms) ≡ length ms
turned_length k p [] = refl
turned_length zero p (m ∷ ms) = refl
turned_length (suc k) p (m ∷ ms) = ap suc (turned_length k p ms)

fire_length : (ls : List Live) (ms : List Method) → length (fire ls ms) ≡ length ms
fire_length ls [] = refl
fire_length ls (m ∷ ms) = ap suc (fire_length ls ms)

own_length : (st : State) (i : Item) → length st.methods ≤ length (own_after st i).methods
own_length st (item.call k message seed) = omega (arith, length-append st.methods (record { id = id_of message; phase = running } ∷ []))
own_length st (item.refused k place) = omega (arith, turned_length k refused st.methods)
own_length st (item.finished k place) = omega (arith, turned_length k (finished place) st.methods)
own_length st i = omega arith

after_length : (st : State) (i : Item) → length (after st i).methods ≡ length (own_after st i).methods
after_length st i = let own = own_after st i in fire_length own.subs own.methods

still_last : (st : State) (items : List Item) (i : Item) → is_plain i ≡ true → (b : Blocking) → IsLastCall items b → IsLastCall (items ++ i ∷ []) b
still_last st items i e b l = record { older = l.older; is = plain_calls items i e ∙ l.is; stands = plain_refused items i e b.k ∙ l.stands; below = l.below }

freed_some : (k : ℕ) (o : Option Blocking) (b : Blocking) → freed k o ≡ Some b → o ≡ Some b
freed_some k o b e = elim (is_blocked_by k o) as (λ c. cond c None o ≡ Some b → o ≡ Some b) [ true ↦ λ is. cc is | false ↦ λ is. is ] e

plain_blocking : (st : State) (i : Item) → is_plain i ≡ true → (b : Blocking) → (after st i).blocking ≡ Some b → st.blocking ≡ Some b
plain_blocking st (item.call k message seed) e b is = cc e
plain_blocking st (item.refused k place) e b is = cc e
plain_blocking st (item.unblocked k) e b is = freed_some k st.blocking b is
plain_blocking st (item.finished k place) e b is = freed_some k st.blocking b is
plain_blocking st i e b is = is

plain_known : (st : State) (items : List Item) (i : Item) → is_plain i ≡ true → KnowsCalls st items → KnowsCalls (after st i) (items ++ i ∷ [])
plain_known st items i e w =
    let more : length st.methods ≤ length (after st i).methods = omega (arith, own_length st i, after_length st i) in record {
      below = subst (AreBelow (length (after st i).methods)) (sym (plain_calls items i e))
          (below_later (length st.methods) (length (after st i).methods) (calls_in items) more w.below);
      fresh = λ k le. plain_refused items i e k ∙ w.fresh k (omega (arith, le, more));
      last = λ b is. still_last st items i e b (w.last b (plain_blocking st i e b is));
    }

call_known : (st : State) (items : List Item) (k : ℕ) (message : ClientMessage) (seed : Val) → k ≡ length st.methods → KnowsCalls st items →
    KnowsCalls (after st (item.call k message seed)) (items ++ item.call k message seed ∷ [])
call_known st items k message seed number w =
    let i = item.call k message seed in
    let n : length (after st i).methods ≡ suc (length st.methods) =
    omega (arith, after_length st i, length-append st.methods (record { id = id_of message; phase = running } ∷ [])) in
    let calls = calls_in-append items i in
    let same : (j : ℕ) → is_refused_in (items ++ i ∷ []) j ≡ is_refused_in items j = λ j. refused-append items i j
    ∙ or_false (is_refused_in items j) in record {
      below = subst (AreBelow (length (after st i).methods)) (sym calls)
          (below_more (length (after st i).methods) (calls_in items) (calling k message seed ∷ []) (below_later (length st.methods)
          (length (after st i).methods) (calls_in items) (omega (arith, n)) w.below) (omega (arith, n, number), tt));
      fresh = λ j le. same j ∙ w.fresh j (omega (arith, le, n));
      last = λ b is.
          let one : calling k message seed ≡ b = cc is in
          subst (IsLastCall (items ++ i ∷ [])) one
          (record {
            older = calls_in items;
            is = calls;
            stands = same k ∙ w.fresh k (omega (arith, number));
            below = subst (λ m. AreBelow m (calls_in items)) (sym number) w.below;
          });
    }

refused_known : (C : List Moment) (st : State) (items : List Item) (k place : ℕ) → IsRefusedAt (moment_at C place) k st.blocking → KnowsCalls st items →
    KnowsCalls (after st (item.refused k place)) (items ++ item.refused k place ∷ [])
refused_known C st items k place r w =
    let i = item.refused k place in
    let n : length (after st i).methods ≡ length st.methods = omega (arith, after_length st i, turned_length k refused st.methods) in
    let calls : calls_in (items ++ i ∷ []) ≡ calls_in items = calls_in-append items i ∙ append-nil (calls_in items) in
    let blocks : is_blocked_by k st.blocking ≡ true = refused_blocks (moment_at C place) k st.blocking r in
    let own = below_k st.blocking refl blocks in record {
      below = subst (AreBelow (length (after st i).methods)) (sym calls) (subst (λ m. AreBelow m (calls_in items)) (sym n) w.below);
      fresh = λ j le. refused-append items i j ∙ ap₂ (λ a b. a || b) (w.fresh j (omega (arith, le, n))) (ne_eqb j k (λ s. omega (arith, s, le, n, own)));
      last = λ b is. cc (sym (ap (λ c. cond c None st.blocking) blocks) ∙ is);
    }
  where
    last_below : (b : Blocking) (bs : List Blocking) → AreBelow (length st.methods) (bs ++ b ∷ []) → b.k < length st.methods
    last_below b [] p = p.0
    last_below b (x ∷ bs) p = last_below b bs p.1

    below_k : (o : Option Blocking) → st.blocking ≡ o → is_blocked_by k o ≡ true → k < length st.methods
    below_k None e t = cc t
    below_k (Some b) e t =
        let l = w.last b e in
        subst (λ m. m < length st.methods) (sym (eqb-true k b.k t)) (last_below b l.older (subst (AreBelow (length st.methods)) l.is w.below))

pub known_after : (app : App) (number : ℕ) (C : List Moment) (st : State) (items : List Item) (i : Item) → CanFollow app number C st i →
    KnowsCalls st items → KnowsCalls (after st i) (items ++ i ∷ [])
known_after app number C st items (item.call k message seed) f w =
    call_known st items k message seed (call_number app number st message k message seed f.made) w
known_after app number C st items (item.refused k place) f w = refused_known C st items k place f w
known_after app number C st items item.connect f w = plain_known st items item.connect refl w
known_after app number C st items item.fail f w = plain_known st items item.fail refl w
known_after app number C st items (item.ping id) f w = plain_known st items (item.ping id) refl w
known_after app number C st items item.pong f w = plain_known st items item.pong refl w
known_after app number C st items (item.bad reason offending) f w = plain_known st items (item.bad reason offending) refl w
known_after app number C st items (item.subscribe s message cursors) f w = plain_known st items (item.subscribe s message cursors) refl w
known_after app number C st items (item.same message) f w = plain_known st items (item.same message) refl w
known_after app number C st items (item.nosub message fault) f w = plain_known st items (item.nosub message fault) refl w
known_after app number C st items (item.close s message) f w = plain_known st items (item.close s message) refl w
known_after app number C st items (item.unknown message) f w = plain_known st items (item.unknown message) refl w
known_after app number C st items (item.load s place) f w = plain_known st items (item.load s place) refl w
known_after app number C st items (item.advance s count) f w = plain_known st items (item.advance s count) refl w
known_after app number C st items (item.unblocked k) f w = plain_known st items (item.unblocked k) refl w
known_after app number C st items (item.finished k place) f w = plain_known st items (item.finished k place) refl w

known_from : (app : App) (number : ℕ) (C : List Moment) (st : State) (before items : List Item) → KnowsCalls st before →
    FitsFrom app number C st items → KnowsCalls (state_from st items) (before ++ items)
known_from app number C st before [] w f = subst (KnowsCalls st) (sym (append-nil before)) w
known_from app number C st before (i ∷ items) w f =
    subst (KnowsCalls (state_from (after st i) items)) (append_assoc before (i ∷ []) items)
    (known_from app number C (after st i) (before ++ i ∷ []) items (known_after app number C st before i f.0 w) f.1)

-- what a journal that fits says of its calls
pub knows_calls : (app : App) (number : ℕ) (C : List Moment) (items : List Item) → Fits app number C items → KnowsCalls (state_of items) items
knows_calls app number C items f = known_from app number C started [] items (record { below = tt; fresh = λ k le. refl; last = λ b e. cc e }) f
