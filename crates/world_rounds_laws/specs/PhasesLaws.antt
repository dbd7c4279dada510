-- Laws: What the phases of a session's calls say: a call that was refused is refused in the journal, and the run of one that has finished had ended
-- at some place.
use Rattle.std.specs.Prelude.{◌≡◌, ℕ, zero, suc, List, [], ◌∷◌, ◌++◌, Bool, true, false, cond, ◌||◌, Some, refl}
use Rattle.std.proofs.Common.{subst}
use Rattle.std.proofs.lemmas.Bool.{eq-eqb}
use Rattle.app_model.specs.App.{App}
use Rattle.world_invariant_laws.specs.session_model.Items.{Item, id_of}
use Rattle.world_invariant_laws.specs.session_model.Items as item
use Rattle.world_invariant_laws.specs.session_model.Subscriptions.{Live, is_open}
use Rattle.world_invariant_laws.specs.session_model.Methods.{Phase, running, refused, finished, told, Method, phase_at, turned, fired, fire}
use Rattle.world_invariant_laws.specs.session_model.State.{State, started, own_after, after, state_from, state_of}
use Rattle.world_invariant_laws.specs.session_model.Moments.{Moment}
use Rattle.world_invariant_laws.specs.session_model.Fits.{CanFollow, FitsFrom, Fits}
use Rattle.world_invariant_laws.specs.session_model.LooksBack.{refuses, is_refused_in}
use Rattle.world_rounds_laws.specs.Phases.{Are, Says}

-- ---- something of each call, by its number and its phase

there : (P : ℕ → Phase → Type 0) (ms : List Method) → Are P ms → (k : ℕ) (p : Phase) → phase_at k ms ≡ Some p → P k p
there P [] a k p e = cc e
there P (m ∷ ms) a zero p e = let same : m.phase ≡ p = cc e in subst (λ (q : Phase). P 0 q) same a.0
there P (m ∷ ms) a (suc k) p e = there (λ j q. P (suc j) q) ms a.1 k p e

one_more : (P : ℕ → Phase → Type 0) (ms : List Method) (m : Method) → Are P ms → ((k : ℕ) → P k m.phase) → Are P (ms ++ m ∷ [])
one_more P [] m a new = (new 0, tt)
one_more P (x ∷ ms) m a new = (a.0, one_more (λ k p. P (suc k) p) ms m a.1 (λ k. new (suc k)))

turned_are : (P : ℕ → Phase → Type 0) (k : ℕ) (p : Phase) (ms : List Method) → P k p → Are P ms → Are P (turned k p ms)
turned_are P k p [] new a = tt
turned_are P zero p (m ∷ ms) new a = (new, a.1)
turned_are P (suc k) p (m ∷ ms) new a = (a.0, turned_are (λ j q. P (suc j) q) k p ms new a.1)

fire_are : (P : ℕ → Phase → Type 0) (ls : List Live) (ms : List Method) → ((k : ℕ) (p : Phase) → P k p → P k (fired ls p)) → Are P ms → Are P (fire ls ms)
fire_are P ls [] keeps a = tt
fire_are P ls (m ∷ ms) keeps a = (keeps 0 m.phase a.0, fire_are (λ k p. P (suc k) p) ls ms (λ k p. keeps (suc k) p) a.1)

-- ---- what a phase says of its call

fired_says : (C : List Moment) (items : List Item) (ls : List Live) (k : ℕ) (p : Phase) → Says C items k p → Says C items k (fired ls p)
fired_says C items ls k running s = s
fired_says C items ls k refused s = s
fired_says C items ls k (finished place) s = elim (is_open place ls) as (λ b. Says C items k (cond b (told place) (finished place))) [ true ↦ s | false ↦ s ]
fired_says C items ls k (told place) s = s

or_left : (a b : Bool) → a ≡ true → (a || b) ≡ true
or_left true b e = refl
or_left false b e = cc e

or_right : (a b : Bool) → b ≡ true → (a || b) ≡ true
or_right true b e = refl
or_right false b e = e

own_are : (app : App) (number : ℕ) (C : List Moment) (all : List Item) (st : State) (i : Item) → CanFollow app number C st i →
    ((k : ℕ) → refuses k i ≡ true → is_refused_in all k ≡ true) → Are (Says C all) st.methods → Are (Says C all) (own_after st i).methods
own_are app number C all st (item.call k message seed) f r a = one_more (Says C all) st.methods (record { id = id_of message; phase = running }) a (λ j. tt)
own_are app number C all st (item.refused k place) f r a = turned_are (Says C all) k refused st.methods (r k (eq-eqb k k refl)) a
own_are app number C all st (item.finished k place) f r a = turned_are (Says C all) k (finished place) st.methods (place, f.1) a
own_are app number C all st i f r a = a

from_are : (app : App) (number : ℕ) (C : List Moment) (all : List Item) (st : State) (items : List Item) → FitsFrom app number C st items →
    ((k : ℕ) → is_refused_in items k ≡ true → is_refused_in all k ≡ true) →
    Are (Says C all) st.methods → Are (Says C all) (state_from st items).methods
from_are app number C all st [] f r a = a
from_are app number C all st (i ∷ items) f r a =
    let own = own_after st i in
    from_are app number C all (after st i) items f.1 (λ k e. r k (or_right (refuses k i) (is_refused_in items k) e))
    (fire_are (Says C all) own.subs own.methods (fired_says C all own.subs)
    (own_are app number C all st i f.0 (λ k e. r k (or_left (refuses k i) (is_refused_in items k) e)) a))

-- So it is of each call of a journal that fits
pub phases_say : (app : App) (number : ℕ) (C : List Moment) (items : List Item) → Fits app number C items → (k : ℕ) (p : Phase) →
    phase_at k (state_of items).methods ≡ Some p → Says C items k p
phases_say app number C items fits k p e = there (Says C items) (state_of items).methods (from_are app number C items started items fits (λ j is. is) tt) k p e
